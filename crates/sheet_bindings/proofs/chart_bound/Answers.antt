use mathlib.Core.Path.{sym, ◌∙◌}
use Rattle.sheet_rules.proofs.Bindings.{bound-chart, bound-none}
use Rattle.sheet_bindings.proofs.chart_bound.Goals as goal

pub returns-in_default : goal.returns-in_default
returns-in_default c = sym (bound-none _ _ (sym c.record.ensures ∙ c.in_default.is))

pub returns : goal.returns
returns c = c.record-2.ensures ∙ sym (bound-chart _ _ _ (sym c.record.ensures ∙ c.in-Some.is))
