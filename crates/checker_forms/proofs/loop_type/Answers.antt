use Rattle.sheet.proofs.All.{and-true, and-false, false-and}
use Rattle.sheet_rules.specs.Types.{loop_type}
use Rattle.sheet_types.proofs.Laws.{given_false, given_true_lem, no, so}
use mathlib.Core.Path.{ap}
use mathlib.Core.Bool.{not}
use Rattle.checker_forms.proofs.loop_type.Goals as goal

pub returns-then-not-is_of : goal.returns-then-not-is_of
unfolding loop_type
returns-then-not-is_of c = given_false _ _ (false-and _ _ (no c.is_of.ensures (ap not c.if-not-is_of.true)))

pub returns-then-not-is_statement : goal.returns-then-not-is_statement
unfolding loop_type
returns-then-not-is_statement c = given_false _ _ (and-false _ _ (no c.is_statement.ensures (ap not c.if-not-is_statement.true)))

pub returns : goal.returns
unfolding loop_type
returns c = given_true_lem _ _ (and-true _ _ (so c.is_of.ensures (ap not c.if-not-is_of.false)) (so c.is_statement.ensures (ap not c.if-not-is_statement.false)))
