use Rattle.sheet.proofs.All.{first_fails_lem, rest_fails, first_holds}
use Rattle.sheet_types.proofs.Laws.{no, so}
use Rattle.engine_valid_values.proofs.Laws.{below_same}
use Rattle.machine.specs.Play.{well_formed}
use mathlib.Core.Path.{ap}
use mathlib.Core.Bool.{not}
use Rattle.engine_valid_kinds.proofs.outside_formed.Goals as goal

pub returns-then-not-below_at : goal.returns-then-not-below_at
unfolding well_formed
returns-then-not-below_at c = first_fails_lem _ _ (no (below_same _ _ _ _ c.below_at.ensures c.externals.ensures.0) (ap not c.if-not-below_at.true))

pub returns-then-not-bound_word : goal.returns-then-not-bound_word
unfolding well_formed
returns-then-not-bound_word c = rest_fails _ _ (first_fails_lem _ _ (no c.bound_word.ensures (ap not c.if-not-bound_word.true)))

pub returns-then-not-below_at-2 : goal.returns-then-not-below_at-2
unfolding well_formed
returns-then-not-below_at-2 c = rest_fails _ _ (rest_fails _ _ (first_fails_lem _ _ (no (below_same _ _ _ _ c.below_at-2.ensures c.ports.ensures.0) (ap not c.if-not-below_at-2.true))))

pub returns : goal.returns
unfolding well_formed
returns c = first_holds _ _ _ (so (below_same _ _ _ _ c.below_at.ensures c.externals.ensures.0) (ap not c.if-not-below_at.false))
    (first_holds _ _ _ (so c.bound_word.ensures (ap not c.if-not-bound_word.false))
    (first_holds _ _ _ (so (below_same _ _ _ _ c.below_at-2.ensures c.ports.ensures.0) (ap not c.if-not-below_at-2.false)) c.name_fits.ensures))
