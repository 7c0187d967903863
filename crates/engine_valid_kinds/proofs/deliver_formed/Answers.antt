use mathlib.Core.Bool.{not}
use mathlib.Core.Path.{sym, ap, ◌∙◌}
use Rattle.sheet.proofs.All.{first_fails_lem, rest_fails, first_holds}
use Rattle.sheet_types.proofs.Laws.{no, so}
use Rattle.engine_valid_values.proofs.Laws.{below_same}
use Rattle.machine.specs.Play.{well_formed}
use Rattle.engine_valid_kinds.proofs.deliver_formed.Goals as goal

pub returns-then-not-below_at : goal.returns-then-not-below_at
unfolding well_formed
returns-then-not-below_at c = first_fails_lem _ _ (no (below_same _ _ _ _ c.below_at.ensures c.components-count.ensures.0) (ap not c.if-not-below_at.true))

pub returns-then-not-below_at-2 : goal.returns-then-not-below_at-2
unfolding well_formed
returns-then-not-below_at-2 c = rest_fails _ _ (first_fails_lem _ _ (no (below_same _ _ _ _ c.below_at-2.ensures c.components-count.ensures.0) (ap not c.if-not-below_at-2.true)))

pub returns-then-both_external : goal.returns-then-both_external
unfolding well_formed
returns-then-both_external c = rest_fails _ _ (rest_fails _ _ (first_fails_lem _ _ (ap not (sym c.both_external.ensures ∙ c.if-both_external.true))))

pub returns : goal.returns
unfolding well_formed
returns c = let count = c.components-count.ensures.0 in
    first_holds _ _ _ (so (below_same _ _ _ _ c.below_at.ensures count) (ap not c.if-not-below_at.false))
    (first_holds _ _ _ (so (below_same _ _ _ _ c.below_at-2.ensures count) (ap not c.if-not-below_at-2.false))
    (first_holds _ _ _ (ap not (sym c.both_external.ensures ∙ c.if-both_external.false)) c.rest_zero.ensures))
