use mathlib.Core.Path.{ap, ◌∙◌}
use lib.Dec.{ltb}
use Rattle.engine_valid_words.proofs.Laws.{back, from_zero, negative, below-number}
use Rattle.engine_valid_words.proofs.is_below.Goals as goal

pub returns-then-z-lt0 : goal.returns-then-z-lt0
returns-then-z-lt0 c = negative c.args.z _ (rw (back c.ranges.z) at c.if-z-lt0.true)

pub number-requires : goal.number-requires
number-requires c = rw (back c.ranges.z) (from_zero c.args.z (rw (back c.ranges.z) at c.if-z-lt0.false))

pub returns : goal.returns
returns c = ap (λ k. ltb k c.args.n) (rw (back c.ranges.z) at c.number.ensures) ∙ below-number c.args.z _ (from_zero c.args.z (rw (back c.ranges.z) at c.if-z-lt0.false))
