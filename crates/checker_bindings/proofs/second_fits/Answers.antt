use mathlib.Core.Path.{sym, ◌∙◌}
use borrow.Author.Tests.{eq-eqb, ne_eqb}
use Rattle.sheet.proofs.All.{first_fails_lem, first_holds}
use Rattle.sheet_rules.specs.Shape.{second_shape}
use Rattle.sheet_rules.proofs.Fields.{holds-present, holds_absent}
use Rattle.checker_bindings.proofs.second_fits.Goals as goal

pub returns-in_default : goal.returns-in_default
unfolding second_shape
returns-in_default c = sym (holds_absent _ _ (sym c.record.ensures ∙ c.in_default.is))

pub returns-then-r : goal.returns-then-r
unfolding second_shape
returns-then-r c = first_fails_lem _ _ (ne_eqb _ _ c.if-r.true) ∙ sym (holds-present _ _ _ (sym c.record.ensures ∙ c.in-Some.is))

pub returns : goal.returns
unfolding second_shape
returns c = first_holds _ _ _ (eq-eqb _ _ c.if-r.false) c.zero_from.ensures ∙ sym (holds-present _ _ _ (sym c.record.ensures ∙ c.in-Some.is))
