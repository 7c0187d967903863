use mathlib.Core.Path.{sym, ◌∙◌}
use borrow.Author.Tests.{le-leb, lt-leb}
use Rattle.sheet.proofs.All.{first_fails_lem, rest_fails, first_holds}
use Rattle.sheet_rules.specs.Shape.{name_shape}
use Rattle.checker_declarations.proofs.name_fits.Goals as goal

pub returns-then-not-in_section : goal.returns-then-not-in_section
unfolding name_shape
returns-then-not-in_section c = first_fails_lem _ _ (sym c.in_section.ensures ∙ c.if-not-in_section.true)

pub returns-then-r-gt4 : goal.returns-then-r-gt4
unfolding name_shape
returns-then-r-gt4 c = rest_fails _ _ (first_fails_lem _ _ (lt-leb _ _ c.if-r-gt4.true))

pub returns-then-r-gt1 : goal.returns-then-r-gt1
unfolding name_shape
returns-then-r-gt1 c = rest_fails _ _ (rest_fails _ _ (first_fails_lem _ _ (lt-leb _ _ c.if-r-gt1.true)))

pub returns : goal.returns
unfolding name_shape
returns c = first_holds _ _ _ (sym c.in_section.ensures ∙ c.if-not-in_section.false) (first_holds _ _ _ (le-leb _ _ c.if-r-gt4.false) (first_holds _ _ _ (le-leb _ _ c.if-r-gt1.false) c.zero_from.ensures))
