use mathlib.Core.Path.{sym, ◌∙◌}
use borrow.Author.Tests.{eq-eqb, ne_eqb}
use Rattle.sheet.proofs.All.{first_fails_lem, rest_fails, first_holds}
use Rattle.sheet_rules.specs.Static.{chart_static}
use Rattle.checker_chart_rules.proofs.chart_static.Goals as goal

pub returns-then-not-plain_data : goal.returns-then-not-plain_data
unfolding chart_static
returns-then-not-plain_data c = (first_fails_lem _ _ (sym c.plain_data.ensures ∙ c.if-not-plain_data.true), c.requires)

pub returns-then-bodies_with-ne1 : goal.returns-then-bodies_with-ne1
unfolding chart_static
returns-then-bodies_with-ne1 c = (rest_fails _ _ (first_fails_lem _ _ (ne_eqb _ _ (λ e. c.if-bodies_with-ne1.true (c.bodies_with.ensures ∙ e)))), c.requires)

pub returns-then-bodies_with-ne1-2 : goal.returns-then-bodies_with-ne1-2
unfolding chart_static
returns-then-bodies_with-ne1-2 c = (rest_fails _ _ (rest_fails _ _ (first_fails_lem _ _ (ne_eqb _ _ (λ e. c.if-bodies_with-ne1-2.true (c.bodies_with-2.ensures ∙ e))))), c.requires)

pub returns : goal.returns
unfolding chart_static
returns c = let bodies-with-is = sym c.bodies_with.ensures ∙ c.if-bodies_with-ne1.false in
    let bodies-with2-is = sym c.bodies_with-2.ensures ∙ c.if-bodies_with-ne1-2.false in
    let plain-data-is = sym c.plain_data.ensures ∙ c.if-not-plain_data.false in (
      first_holds _ _ _ plain-data-is
          (first_holds _ _ _ (eq-eqb _ _ bodies-with-is) (first_holds _ _ _ (eq-eqb _ _ bodies-with2-is) c.bodies_static.ensures.0)),
      c.bodies_static.ensures.1,
    )
