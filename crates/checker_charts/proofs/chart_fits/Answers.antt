use mathlib.Core.Path.{sym, ◌∙◌}
use borrow.Author.Tests.{le-leb, lt-leb, eq-eqb, ne_eqb}
use Rattle.sheet.proofs.All.{first_fails_lem, rest_fails, first_holds}
use Rattle.sheet_rules.specs.Shape.{chart_shape}
use Rattle.checker_charts.proofs.chart_fits.Goals as goal

pub returns-then-not-in_section : goal.returns-then-not-in_section
unfolding chart_shape
returns-then-not-in_section c = first_fails_lem _ _ (sym c.in_section.ensures ∙ c.if-not-in_section.true)

pub returns-then-r-gt14 : goal.returns-then-r-gt14
unfolding chart_shape
returns-then-r-gt14 c = rest_fails _ _ (first_fails_lem _ _ (lt-leb _ _ c.if-r-gt14.true))

pub returns-then-not-in_section-2 : goal.returns-then-not-in_section-2
unfolding chart_shape
returns-then-not-in_section-2 c = rest_fails _ _ (rest_fails _ _ (first_fails_lem _ _ (sym c.in_section-2.ensures ∙ c.if-not-in_section-2.true)))

pub returns-then-r-gt32 : goal.returns-then-r-gt32
unfolding chart_shape
returns-then-r-gt32 c = rest_fails _ _ (rest_fails _ _ (rest_fails _ _ (first_fails_lem _ _ (lt-leb _ _ c.if-r-gt32.true))))

pub returns-then-r-bodies_up_to : goal.returns-then-r-bodies_up_to
unfolding chart_shape
returns-then-r-bodies_up_to c = rest_fails _ _ (rest_fails _ _ (rest_fails _ _ (rest_fails _ _ (first_fails_lem _ _ (ne_eqb _ _ (λ e. c.if-r-bodies_up_to.true (e ∙ sym c.bodies_up_to.ensures)))))))

pub returns : goal.returns
unfolding chart_shape
returns c = let in-section-is = sym c.in_section.ensures ∙ c.if-not-in_section.false in
    let in-section2-is = sym c.in_section-2.ensures ∙ c.if-not-in_section-2.false in
    let eq-eqb-here = eq-eqb _ _ (c.if-r-bodies_up_to.false ∙ c.bodies_up_to.ensures) in
    first_holds _ _ _ in-section-is
    (first_holds _ _ _ (le-leb _ _ c.if-r-gt14.false)
    (first_holds _ _ _ in-section2-is (first_holds _ _ _ (le-leb _ _ c.if-r-gt32.false) (first_holds _ _ _ eq-eqb-here c.zero_from.ensures))))
