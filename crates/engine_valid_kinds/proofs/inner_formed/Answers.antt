use Rattle.sheet.proofs.All.{first_fails_lem, rest_fails, first_holds}
use Rattle.sheet_types.proofs.Laws.{no, so}
use Rattle.engine_valid_values.proofs.Laws.{below_same}
use Rattle.machine.specs.Play.{well_formed}
use mathlib.Core.Path.{ap}
use mathlib.Core.Bool.{not}
use Rattle.engine_valid_kinds.proofs.inner_formed.Goals as goal

pub returns-then-not-zero_at : goal.returns-then-not-zero_at
unfolding well_formed
returns-then-not-zero_at c = first_fails_lem _ _ (no c.zero_at.ensures (ap not c.if-not-zero_at.true))

pub returns-then-not-below_at : goal.returns-then-not-below_at
unfolding well_formed
returns-then-not-below_at c = rest_fails _ _ (first_fails_lem _ _ (no (below_same _ _ _ _ c.below_at.ensures c.components.ensures.0) (ap not c.if-not-below_at.true)))

pub returns : goal.returns
unfolding well_formed
returns c = first_holds _ _ _ (so c.zero_at.ensures (ap not c.if-not-zero_at.false))
    (first_holds _ _ _ (so (below_same _ _ _ _ c.below_at.ensures c.components.ensures.0) (ap not c.if-not-below_at.false)) c.rest_zero.ensures)
