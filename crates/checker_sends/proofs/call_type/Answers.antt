use mathlib.Core.Path.{sym, ◌∙◌}
use borrow.Author.Tests.{eq-eqb, ne_eqb}
use Rattle.sheet.proofs.All.{false-and, and-false, and-true}
use Rattle.sheet_rules.proofs.Fields.{holds-present, holds_absent}
use Rattle.sheet_rules.specs.Types.{call_type}
use Rattle.sheet_types.proofs.Laws.{given_false, given_true_lem}
use Rattle.checker_sends.proofs.call_type.Goals as goal

pub returns-in_default : goal.returns-in_default
unfolding call_type
returns-in_default c = given_false _ _ (false-and _ _ (holds_absent _ _ (sym c.called_body.ensures ∙ c.in_default.is)))

pub returns-then-p-ne4 : goal.returns-then-p-ne4
unfolding call_type
returns-then-p-ne4 c = given_false _ _ (false-and _ _ (holds-present _ _ _ (sym c.called_body.ensures ∙ c.in-Some.is) ∙ ne_eqb _ 4 c.if-p-ne4.true))

pub returns-then-not-d : goal.returns-then-not-d
unfolding call_type
returns-then-not-d c = given_false _ _ (and-false _ _ (c.if-not-d.true))

pub returns : goal.returns
unfolding call_type
returns c = given_true_lem _ _ (and-true _ _ (holds-present _ _ _ (sym c.called_body.ensures ∙ c.in-Some.is) ∙ eq-eqb _ 4 c.if-p-ne4.false) (c.if-not-d.false))
