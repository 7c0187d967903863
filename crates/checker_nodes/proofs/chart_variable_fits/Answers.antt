use mathlib.Core.Path.{sym, ◌∙◌}
use Rattle.sheet.proofs.All.{first_fails_lem, first_holds}
use Rattle.checker_nodes.proofs.chart_variable_fits.Goals as goal

pub returns-then-not-chart_variable_there : goal.returns-then-not-chart_variable_there
returns-then-not-chart_variable_there c = first_fails_lem _ _ (sym c.chart_variable_there.ensures ∙ c.if-not-chart_variable_there.true)

pub returns : goal.returns
returns c = first_holds _ _ _ (sym c.chart_variable_there.ensures ∙ c.if-not-chart_variable_there.false) c.zero_from.ensures
