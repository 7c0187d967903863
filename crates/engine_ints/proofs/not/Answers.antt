use Rattle.std.specs.Prelude.{Ok}
use mathlib.Core.Path.{ap, ◌∙◌}
use Rattle.machine.specs.Values.{is_zero}
use Rattle.machine.specs.Eval.{bool_word}
use Rattle.engine_ints.specs.Work.{not_work}
use Rattle.engine_ints.proofs.Range.{zero_bits}
use Rattle.engine_ints.proofs.Words.{word_back}
use Rattle.engine_ints.proofs.not.Goals as goal

pub returns : goal.returns
unfolding not_work
returns c = ap (λ z. Ok (z, c.args.left)) (word_back _ (is_zero c.args.z) (c.bool_word.ensures ∙ ap bool_word (zero_bits _ c.ranges.z)))
