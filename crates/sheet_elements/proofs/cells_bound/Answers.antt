use native.Mathlib.Omega.{arith}
use mathlib.Core.Path.{sym, ◌∙◌}
use Rattle.sheet_elements.proofs.Laws.{no_chart_lem, chart-cells}
use Rattle.sheet_elements.proofs.cells_bound.Goals as goal

pub returns-in_default : goal.returns-in_default
returns-in_default c = (λ i at. no_chart_lem _ _ i at (sym c.chart_bound.ensures ∙ c.in_default.is), omega arith)

pub returns : goal.returns
returns c = (λ i at. c.cells_before.ensures.0 ∙ chart-cells _ _ i at _ (sym c.chart_bound.ensures ∙ c.in-Some.is), c.cells_before.ensures.1)
