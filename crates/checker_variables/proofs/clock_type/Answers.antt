use Rattle.checker_variables.proofs.Laws.{not_clock, clock_active, clock-value}
use mathlib.Core.Path.{ap}
use mathlib.Core.Bool.{not}
use Rattle.checker_variables.proofs.clock_type.Goals as goal

pub returns-then-not-is_clock : goal.returns-then-not-is_clock
returns-then-not-is_clock c = not_clock _ _ _ _ _ c.chart_variable_type.ensures c.is_clock.ensures (ap not c.if-not-is_clock.true)

pub returns-then-r-eq17 : goal.returns-then-r-eq17
returns-then-r-eq17 c = clock_active _ _ _ _ _ c.chart_variable_type.ensures c.is_clock.ensures (ap not c.if-not-is_clock.false) c.if-r-eq17.true

pub returns : goal.returns
returns c = clock-value _ _ _ _ _ c.chart_variable_type.ensures c.is_clock.ensures (ap not c.if-not-is_clock.false) c.if-r-eq17.false
