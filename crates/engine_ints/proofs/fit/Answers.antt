use mir.Syntax.{w32}
use mir.Val.{SFits}
use Rattle.engine_ints.proofs.Range.{back, back64, too_low, too_high, within, inside}
use Rattle.engine_ints.proofs.fit.Goals as goal

fits : (c : goal.Else-z-gt2147483647) → SFits w32 c.args.z
fits c = within _ (rw (back64 c.ranges.z) at c.if-z-ltminus2147483648.false) (rw (back64 c.ranges.z) at c.if-z-gt2147483647.false)

pub returns-then-z-ltminus2147483648 : goal.returns-then-z-ltminus2147483648
returns-then-z-ltminus2147483648 c = too_low _ _ (rw (back64 c.ranges.z) at c.if-z-ltminus2147483648.true)

pub returns-then-z-gt2147483647 : goal.returns-then-z-gt2147483647
returns-then-z-gt2147483647 c = too_high _ _ (rw (back64 c.ranges.z) at c.if-z-gt2147483647.true)

pub returns : goal.returns
returns c = rw (back64 c.ranges.z, back (fits c)) (inside _ _ (fits c))
