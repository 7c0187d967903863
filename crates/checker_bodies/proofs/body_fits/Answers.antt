use mathlib.Core.Path.{sym, ap, ◌∙◌}
use borrow.Author.Tests.{le-leb, lt-leb}
use lib.Dec.{ltb}
use Rattle.sheet.proofs.All.{first_fails_lem, rest_fails, first_holds}
use Rattle.sheet_rules.specs.Shape.{body_shape}
use Rattle.checker_bodies.proofs.body_fits.Goals as goal

pub returns-then-r-gt4 : goal.returns-then-r-gt4
unfolding body_shape
returns-then-r-gt4 c = first_fails_lem _ _ (lt-leb _ _ c.if-r-gt4.true)

pub returns-then-not-reaction_fits : goal.returns-then-not-reaction_fits
unfolding body_shape
returns-then-not-reaction_fits c = rest_fails _ _ (first_fails_lem _ _ (sym c.reaction_fits.ensures ∙ c.if-not-reaction_fits.true))

pub returns-then-not-in_section : goal.returns-then-not-in_section
unfolding body_shape
returns-then-not-in_section c = rest_fails _ _ (rest_fails _ _ (first_fails_lem _ _ (sym c.in_section.ensures ∙ c.if-not-in_section.true)))

pub returns-then-r-gt4-2 : goal.returns-then-r-gt4-2
unfolding body_shape
returns-then-r-gt4-2 c = rest_fails _ _ (rest_fails _ _ (rest_fails _ _ (first_fails_lem _ _ (lt-leb _ _ c.if-r-gt4-2.true))))

pub returns-then-not-in_section-2 : goal.returns-then-not-in_section-2
unfolding body_shape
returns-then-not-in_section-2 c = rest_fails _ _ (rest_fails _ _ (rest_fails _ _ (rest_fails _ _ (first_fails_lem _ _ (sym c.in_section-2.ensures ∙ c.if-not-in_section-2.true)))))

pub returns-then-r-gt16 : goal.returns-then-r-gt16
unfolding body_shape
returns-then-r-gt16 c = rest_fails _ _ (rest_fails _ _ (rest_fails _ _ (rest_fails _ _ (rest_fails _ _ (first_fails_lem _ _ (lt-leb _ _ c.if-r-gt16.true))))))

pub returns : goal.returns
unfolding body_shape
returns c = let in-section-is = sym c.in_section.ensures ∙ c.if-not-in_section.false in
    let in-section2-is = sym c.in_section-2.ensures ∙ c.if-not-in_section-2.false in
    let reaction-fits-is = sym c.reaction_fits.ensures ∙ c.if-not-reaction_fits.false in
    first_holds _ _ _ (le-leb _ _ c.if-r-gt4.false)
    (first_holds _ _ _ reaction-fits-is
    (first_holds _ _ _ in-section-is
    (first_holds _ _ _ (le-leb _ _ c.if-r-gt4-2.false)
    (first_holds _ _ _ in-section2-is (first_holds _ _ _ (le-leb _ _ c.if-r-gt16.false) (ap (ltb _) c.count.ensures))))))
