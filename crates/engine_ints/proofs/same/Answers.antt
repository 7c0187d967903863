use mathlib.Core.Path.{ap, ◌∙◌}
use Rattle.machine.specs.Values.{same_word}
use Rattle.machine.specs.Eval.{bool_word}
use Rattle.engine_ints.proofs.Words.{word_back, same_bits}
use Rattle.engine_ints.proofs.same.Goals as goal

pub returns : goal.returns
returns c = word_back _ (same_word c.args.a c.args.b) (c.bool_word.ensures ∙ ap bool_word (same_bits _ _ c.ranges.a c.ranges.b))
