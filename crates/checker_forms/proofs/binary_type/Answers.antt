use mathlib.Core.Path.{sym, ◌∙◌, ap}
use Rattle.sheet.proofs.All.{and-true, and-false, false-and}
use Rattle.sheet_types.proofs.Laws.{given_false, given_true_lem, no, so}
use Rattle.checker_forms.proofs.Laws.{same_type_lem, not_same, binary_9, binary_10, binary_11, binary-rest, not_two_ints}
use mathlib.Core.Bool.{not}
use Rattle.checker_forms.proofs.binary_type.Goals as goal

pub returns-then-not-is_of : goal.returns-then-not-is_of
returns-then-not-is_of c = given_false _ _ (false-and _ _ (no c.is_of.ensures (ap not c.if-not-is_of.true))) ∙ sym (binary_9 _ _ _ c.in-9.is)

pub returns-then-not-is_of-2 : goal.returns-then-not-is_of-2
returns-then-not-is_of-2 c = given_false _ _ (and-false _ _ (no c.is_of-in-9.ensures (ap not c.if-not-is_of-2.true))) ∙ sym (binary_9 _ _ _ c.in-9.is)

pub returns-in_default-x : goal.returns-in_default-x
returns-in_default-x c = given_false _ _ (not_same c.args.x _ c.in_default-x.not-Expression) ∙ sym (binary_10 _ _ _ c.in-10.is)

pub returns-then-not-is_of-3 : goal.returns-then-not-is_of-3
returns-then-not-is_of-3 c = given_false _ _ (same_type_lem _ _ _ c.in-Expression.is ∙ no c.is_of-in-10.ensures (ap not c.if-not-is_of-3.true)) ∙ sym (binary_10 _ _ _ c.in-10.is)

pub returns-then-not-is_of-4 : goal.returns-then-not-is_of-4
returns-then-not-is_of-4 c = not_two_ints _ _ _ c.in_default.in_default-own.rest.0.1 c.in_default.in_default-own.rest.1 (false-and _ _ (no c.is_of-in_default.ensures (ap not c.if-not-is_of-4.true)))

pub returns-then-not-is_of-5 : goal.returns-then-not-is_of-5
returns-then-not-is_of-5 c = not_two_ints _ _ _ c.in_default.in_default-own.rest.0.1 c.in_default.in_default-own.rest.1 (and-false _ _ (no c.is_of-in_default-2.ensures (ap not c.if-not-is_of-5.true)))

pub returns-then-op-eq11 : goal.returns-then-op-eq11
returns-then-op-eq11 c = given_true_lem _ _ (and-true _ _ (so c.is_of-in_default.ensures (ap not c.if-not-is_of-4.false)) (so c.is_of-in_default-2.ensures (ap not c.if-not-is_of-5.false))) ∙ sym (binary_11 _ _ _ c.if-op-eq11.true)

pub returns-else-not-is_of-2 : goal.returns-else-not-is_of-2
returns-else-not-is_of-2 c = given_true_lem _ _ (and-true _ _ (so c.is_of.ensures (ap not c.if-not-is_of.false)) (so c.is_of-in-9.ensures (ap not c.if-not-is_of-2.false))) ∙ sym (binary_9 _ _ _ c.in-9.is)

pub returns-else-not-is_of-3 : goal.returns-else-not-is_of-3
returns-else-not-is_of-3 c = given_true_lem _ _ (same_type_lem _ _ _ c.in-Expression.is ∙ so c.is_of-in-10.ensures (ap not c.if-not-is_of-3.false)) ∙ sym (binary_10 _ _ _ c.in-10.is)

pub returns-else-op-eq11 : goal.returns-else-op-eq11
returns-else-op-eq11 c = given_true_lem _ _ (and-true _ _ (so c.is_of-in_default.ensures (ap not c.if-not-is_of-4.false)) (so c.is_of-in_default-2.ensures (ap not c.if-not-is_of-5.false))) ∙ sym (binary-rest _ _ _ c.in_default.in_default-own.rest.0.1 c.in_default.in_default-own.rest.1 c.if-op-eq11.false)
