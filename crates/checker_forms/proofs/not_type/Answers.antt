use Rattle.sheet_rules.specs.Types.{not_type}
use Rattle.sheet_types.proofs.Laws.{given_false, given_true_lem, no, so}
use mathlib.Core.Path.{ap}
use mathlib.Core.Bool.{not}
use Rattle.checker_forms.proofs.not_type.Goals as goal

pub returns-then-not-is_of : goal.returns-then-not-is_of
unfolding not_type
returns-then-not-is_of c = given_false _ _ (no c.is_of.ensures (ap not c.if-not-is_of.true))

pub returns : goal.returns
unfolding not_type
returns c = given_true_lem _ _ (so c.is_of.ensures (ap not c.if-not-is_of.false))
