use mathlib.Core.Path.{◌∙◌}
use Rattle.engine_ints.proofs.Range.{back, back64, quotient_fits, is_zero_lem, not-zero, by_zero, by_other}
use Rattle.engine_ints.proofs.div.Goals as goal

pub returns-then-b-eq0 : goal.returns-then-b-eq0
returns-then-b-eq0 c = by_zero _ _ _ (is_zero_lem c.ranges.b c.if-b-eq0.true)

pub floored-requires : goal.floored-requires
floored-requires c = rw (back c.ranges.b) (not-zero c.ranges.b c.if-b-eq0.false)

pub returns : goal.returns
returns c = let q = rw (back c.ranges.a, back c.ranges.b) at c.floored.ensures in
    (rw (q, back64 (quotient_fits c.ranges.a c.ranges.b)) at c.fit.ensures) ∙ by_other _ _ _ (not-zero c.ranges.b c.if-b-eq0.false)
