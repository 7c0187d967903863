use Rattle.sheet.proofs.All.{and-true, and-false, false-and}
use Rattle.sheet_rules.specs.Types.{internal_type}
use Rattle.sheet_types.proofs.Laws.{given_false, given_true_lem, no, so}
use mathlib.Core.Path.{ap}
use mathlib.Core.Bool.{not}
use Rattle.checker_sends.proofs.internal_type.Goals as goal

pub returns-then-not-internal_name : goal.returns-then-not-internal_name
unfolding internal_type
returns-then-not-internal_name c = given_false _ _ (false-and _ _ (no c.internal_name.ensures (ap not c.if-not-internal_name.true)))

pub returns-then-not-d : goal.returns-then-not-d
unfolding internal_type
returns-then-not-d c = given_false _ _ (and-false _ _ (c.if-not-d.true))

pub returns : goal.returns
unfolding internal_type
returns c = given_true_lem _ _ (and-true _ _ (so c.internal_name.ensures (ap not c.if-not-internal_name.false)) (c.if-not-d.false))
