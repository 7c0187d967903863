use native.Mathlib.Omega.{arith}
use mathlib.Core.Path.{sym, ◌∙◌}
use Rattle.sheet_rules.specs.Fields.{field_at}
use Rattle.sheet_rules.proofs.Fields.{number-present, number_absent}
use Rattle.sheet_fields.proofs.field_at.Goals as goal

pub returns-in_default : goal.returns-in_default
unfolding field_at
returns-in_default c = (sym (number_absent _ _ (sym c.record.ensures ∙ c.in_default.is)), omega arith)

pub returns : goal.returns
unfolding field_at
returns c = (c.field.ensures.0 ∙ sym (number-present _ _ _ (sym c.record.ensures ∙ c.in-Some.is)), c.field.ensures.1)
