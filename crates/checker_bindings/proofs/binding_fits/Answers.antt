use mathlib.Core.Path.{sym, ◌∙◌}
use Rattle.sheet_rules.specs.Shape.{binding_shape}
use Rattle.sheet_rules.proofs.Fields.{holds-present, holds_absent}
use Rattle.checker_bindings.proofs.binding_fits.Goals as goal

pub returns-in_default : goal.returns-in_default
unfolding binding_shape
returns-in_default c = sym (holds_absent _ _ (sym c.record.ensures ∙ c.in_default.is))

pub returns-in_default-record : goal.returns-in_default-record
unfolding binding_shape
returns-in_default-record c = sym (holds-present _ _ _ (sym c.record.ensures ∙ c.in-Some.is) ∙ holds_absent _ _ (sym c.record-2.ensures ∙ c.in_default-record.is))

pub returns : goal.returns
unfolding binding_shape
returns c = c.records_fit.ensures ∙ sym (holds-present _ _ _ (sym c.record.ensures ∙ c.in-Some.is) ∙ holds-present _ _ _ (sym c.record-2.ensures ∙ c.in-Some-record.is))
