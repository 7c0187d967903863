use mathlib.Core.Path.{sym, ◌∙◌}
use borrow.Author.Tests.{le-leb, lt-leb}
use Rattle.sheet.proofs.All.{first_fails_lem, rest_fails, first_holds, and-true}
use Rattle.sheet.specs.Names.{is_literal}
use Rattle.sheet_rules.proofs.Fields.{holds-present, holds_absent}
use Rattle.sheet_rules.specs.Shape.{constant_shape}
use Rattle.checker_literals.proofs.constant_fits.Goals as goal

pub returns-in_default : goal.returns-in_default
unfolding constant_shape
returns-in_default c = sym (holds_absent _ _ (sym c.record.ensures ∙ c.in_default.is))

pub returns-then-r-lt1 : goal.returns-then-r-lt1
unfolding constant_shape is_literal
returns-then-r-lt1 c = first_fails_lem _ _ (sym (first_fails_lem _ _ (lt-leb _ _ c.if-r-lt1.true))) ∙ sym (holds-present _ _ _ (sym c.record.ensures ∙ c.in-Some.is))

pub returns-then-r-gt6 : goal.returns-then-r-gt6
unfolding constant_shape is_literal
returns-then-r-gt6 c = first_fails_lem _ _ (sym (rest_fails _ _ (sym (lt-leb _ _ c.if-r-gt6.true)))) ∙ sym (holds-present _ _ _ (sym c.record.ensures ∙ c.in-Some.is))

pub returns : goal.returns
unfolding constant_shape is_literal
returns c = first_holds _ _ _ (and-true _ _ (le-leb _ _ c.if-r-lt1.false) (le-leb _ _ c.if-r-gt6.false)) c.literal_fits.ensures ∙ sym (holds-present _ _ _ (sym c.record.ensures ∙ c.in-Some.is))
