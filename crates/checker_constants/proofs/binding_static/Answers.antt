use mathlib.Core.Path.{sym, ◌∙◌}
use Rattle.sheet_rules.specs.Static.{binding_static}
use Rattle.sheet_rules.proofs.Fields.{holds-present, holds_absent}
use Rattle.checker_constants.proofs.binding_static.Goals as goal

pub returns-in_default : goal.returns-in_default
unfolding binding_static
returns-in_default c = sym (holds_absent _ _ (sym c.chart_bound.ensures ∙ c.in_default.is))

pub returns : goal.returns
unfolding binding_static
returns c = c.constants_static.ensures ∙ sym (holds-present _ _ _ (sym c.chart_bound.ensures ∙ c.in-Some.is))
