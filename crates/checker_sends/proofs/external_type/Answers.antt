use Rattle.sheet.proofs.All.{and-true, and-false, false-and}
use Rattle.sheet_rules.specs.Types.{external_type}
use Rattle.sheet_types.proofs.Laws.{given_false, given_true_lem, no, so}
use mathlib.Core.Path.{ap}
use mathlib.Core.Bool.{not}
use Rattle.checker_sends.proofs.external_type.Goals as goal

pub returns-then-not-is_of : goal.returns-then-not-is_of
unfolding external_type
returns-then-not-is_of c = given_false _ _ (false-and _ _ (no c.is_of.ensures (ap not c.if-not-is_of.true)))

pub returns-then-not-is_of-2 : goal.returns-then-not-is_of-2
unfolding external_type
returns-then-not-is_of-2 c = given_false _ _ (and-false _ _ (false-and _ _ (no c.is_of-2.ensures (ap not c.if-not-is_of-2.true))))

pub returns-then-not-has_class : goal.returns-then-not-has_class
unfolding external_type
returns-then-not-has_class c = given_false _ _ (and-false _ _ (and-false _ _ (false-and _ _ (no c.has_class.ensures (ap not c.if-not-has_class.true)))))

pub returns-then-not-d : goal.returns-then-not-d
unfolding external_type
returns-then-not-d c = given_false _ _ (and-false _ _ (and-false _ _ (and-false _ _ (c.if-not-d.true))))

pub returns : goal.returns
unfolding external_type
returns c = given_true_lem _ _ (and-true _ _ (so c.is_of.ensures (ap not c.if-not-is_of.false)) (and-true _ _ (so c.is_of-2.ensures (ap not c.if-not-is_of-2.false)) (and-true _ _ (so c.has_class.ensures (ap not c.if-not-has_class.false)) (c.if-not-d.false))))
