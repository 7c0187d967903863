use Rattle.checker_variables.proofs.Laws.{not_timer, timer_starts, not_stopped, stops}
use mathlib.Core.Path.{ap}
use mathlib.Core.Bool.{not}
use Rattle.checker_variables.proofs.clock_act_type.Goals as goal

pub returns-then-t-ne4 : goal.returns-then-t-ne4
returns-then-t-ne4 c = not_timer _ _ _ _ c.chart_variable_type-t.ensures c.if-r-eq38.true c.if-t-ne4.true

pub returns-then-r-eq38 : goal.returns-then-r-eq38
returns-then-r-eq38 c = timer_starts _ _ _ _ c.chart_variable_type-t.ensures c.if-r-eq38.true c.if-t-ne4.false

pub returns-then-not-is_clock : goal.returns-then-not-is_clock
returns-then-not-is_clock c = not_stopped _ _ _ _ _ c.chart_variable_type-t.ensures c.is_clock.ensures c.if-r-eq38.false (ap not c.if-not-is_clock.true)

pub returns : goal.returns
returns c = stops _ _ _ _ _ c.chart_variable_type-t.ensures c.is_clock.ensures c.if-r-eq38.false (ap not c.if-not-is_clock.false)
