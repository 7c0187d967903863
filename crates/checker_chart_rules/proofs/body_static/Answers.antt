use mathlib.Core.Path.{sym, ap, ◌∙◌}
use Rattle.sheet.proofs.All.{first_fails_lem, rest_fails, first_holds}
use Rattle.sheet_rules.specs.Types.{is_statement}
use Rattle.sheet_rules.specs.Static.{plain_data, body_static}
use Rattle.checker_chart_rules.proofs.body_static.Goals as goal

pub returns-then-not-plain_data : goal.returns-then-not-plain_data
unfolding body_static
returns-then-not-plain_data c = first_fails_lem _ _ (sym (c.plain_data.ensures ∙ ap (plain_data _) c.parameters.ensures.0) ∙ c.if-not-plain_data.true)

pub returns-then-not-plain_data-2 : goal.returns-then-not-plain_data-2
unfolding body_static
returns-then-not-plain_data-2 c = rest_fails _ _ (first_fails_lem _ _ (sym (c.plain_data-2.ensures ∙ ap (plain_data _) c.locals.ensures.0) ∙ c.if-not-plain_data-2.true))

pub returns-then-not-role_static : goal.returns-then-not-role_static
unfolding body_static
returns-then-not-role_static c = rest_fails _ _ (rest_fails _ _ (first_fails_lem _ _ (sym c.role_static.ensures ∙ c.if-not-role_static.true)))

pub returns : goal.returns
unfolding body_static
returns c = let role-static-is = sym c.role_static.ensures ∙ c.if-not-role_static.false in
    let plain-data2-is = sym (c.plain_data-2.ensures ∙ ap (plain_data _) c.locals.ensures.0) ∙ c.if-not-plain_data-2.false in
    let plain-data-is = sym (c.plain_data.ensures ∙ ap (plain_data _) c.parameters.ensures.0) ∙ c.if-not-plain_data.false in
    first_holds _ _ _ plain-data-is
    (first_holds _ _ _ plain-data2-is (first_holds _ _ _ role-static-is (c.is_statement.ensures ∙ ap is_statement c.type_of.ensures)))
