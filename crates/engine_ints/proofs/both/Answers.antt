use mathlib.Core.Path.{ap, ◌∙◌}
use mathlib.Core.Bool.{not}
use Rattle.machine.specs.Eval.{bool_word, is_one}
use Rattle.engine_ints.proofs.Range.{zero_bits, is_zero_lem, not-zero}
use Rattle.engine_ints.proofs.Words.{word_back, not_both_lem, other_one}
use Rattle.engine_ints.proofs.both.Goals as goal

pub returns-then-a-eq0 : goal.returns-then-a-eq0
returns-then-a-eq0 c = not_both_lem _ _ (is_zero_lem c.ranges.a c.if-a-eq0.true)

pub returns : goal.returns
returns c = word_back _ (is_one c.args.b) (c.bool_word.ensures ∙ ap (λ t. bool_word (not t)) (zero_bits _ c.ranges.b)) ∙ other_one c.args.a _ (not-zero c.ranges.a c.if-a-eq0.false)
