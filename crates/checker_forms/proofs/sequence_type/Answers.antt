use Rattle.sheet.proofs.All.{and-true, and-false, false-and}
use Rattle.sheet_rules.specs.Types.{sequence_type}
use Rattle.sheet_types.proofs.Laws.{given_false, given_true_lem, no, so}
use mathlib.Core.Path.{ap}
use mathlib.Core.Bool.{not}
use Rattle.checker_forms.proofs.sequence_type.Goals as goal

pub returns-then-not-is_statement : goal.returns-then-not-is_statement
unfolding sequence_type
returns-then-not-is_statement c = given_false _ _ (false-and _ _ (no c.is_statement.ensures (ap not c.if-not-is_statement.true)))

pub returns-then-not-is_statement-2 : goal.returns-then-not-is_statement-2
unfolding sequence_type
returns-then-not-is_statement-2 c = given_false _ _ (and-false _ _ (no c.is_statement-2.ensures (ap not c.if-not-is_statement-2.true)))

pub returns : goal.returns
unfolding sequence_type
returns c = given_true_lem _ _ (and-true _ _ (so c.is_statement.ensures (ap not c.if-not-is_statement.false)) (so c.is_statement-2.ensures (ap not c.if-not-is_statement-2.false)))
