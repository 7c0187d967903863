use native.Mathlib.Omega.{arith}
use Rattle.engine_answers.proofs.Laws.{answer_put}
use Rattle.engine_answers.proofs.put_answer.Goals as goal

pub returns : goal.returns
returns c = answer_put c.args.answers.now c.args.at c.args.a c.requires.0 (omega arith) c.requires.1 (omega arith) _ _ c.put_words.ensures c.handed_words.ensures
