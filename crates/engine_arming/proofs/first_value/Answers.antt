use Rattle.engine_ints.proofs.Range.{back}
use Rattle.engine_arming.proofs.Acts.{value_timeout, value_cycler}
use Rattle.engine_arming.proofs.first_value.Goals as goal

pub returns-then-op-eq36 : goal.returns-then-op-eq36
returns-then-op-eq36 c = rw (back c.ranges.period) (value_timeout _ _ c.if-op-eq36.true)

pub returns-else-op-eq36 : goal.returns-else-op-eq36
returns-else-op-eq36 c = value_cycler _ _ c.if-op-eq36.false
