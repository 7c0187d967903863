use Rattle.checker_variables.proofs.Laws.{array_read, clock-read, is_read}
use mathlib.Core.Path.{ap}
use mathlib.Core.Bool.{not}
use Rattle.checker_variables.proofs.read_type.Goals as goal

pub returns-then-is_clock : goal.returns-then-is_clock
returns-then-is_clock c = clock-read _ _ _ _ _ _ _ c.variable_at-d.ensures c.type_at-t.ensures c.is_clock.ensures c.if-is_clock.true

pub returns-then-not-is_plain : goal.returns-then-not-is_plain
returns-then-not-is_plain c = array_read _ _ _ _ _ c.variable_at-d.ensures _ c.is_plain.ensures (ap not c.if-not-is_plain.true)

pub returns : goal.returns
returns c = is_read _ _ _ _ _ _ _ c.variable_at-d.ensures c.type_at-t.ensures c.is_clock.ensures _ c.is_plain.ensures c.if-is_clock.false (ap not c.if-not-is_plain.false)
