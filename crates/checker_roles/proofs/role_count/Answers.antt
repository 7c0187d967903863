use native.Mathlib.Omega.{arith}
use mathlib.Core.Path.{sym, ap, ◌∙◌}
use borrow.Author.Tests.{eq-eqb, ne_eqb}
use Rattle.sheet_rules.specs.Fields.{one_if}
use Rattle.sheet_rules.proofs.Fields.{holds-present, holds_absent}
use Rattle.sheet_rules.specs.Static.{has_role}
use Rattle.checker_roles.proofs.role_count.Goals as goal

pub returns-in_default : goal.returns-in_default
unfolding has_role
returns-in_default c = (sym (ap one_if (holds_absent _ _ (sym c.record.ensures ∙ c.in_default.is))), omega arith)

pub returns-then-b-role : goal.returns-then-b-role
unfolding has_role
returns-then-b-role c = (sym (ap one_if (holds-present _ _ _ (sym c.record.ensures ∙ c.in-Some.is) ∙ eq-eqb _ _ c.if-b-role.true)), omega arith)

pub returns-else-b-role : goal.returns-else-b-role
unfolding has_role
returns-else-b-role c = (sym (ap one_if (holds-present _ _ _ (sym c.record.ensures ∙ c.in-Some.is) ∙ ne_eqb _ _ c.if-b-role.false)), omega arith)
