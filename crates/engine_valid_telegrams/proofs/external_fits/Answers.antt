use mathlib.Core.Bool.{not}
use mathlib.Core.Path.{sym, ap, ◌∙◌}
use Rattle.sheet.proofs.All.{first_fails_lem, rest_fails, first_holds}
use Rattle.machine.specs.State.{telegram_in}
use Rattle.machine.specs.Valid.{external_fits}
use Rattle.sheet_types.proofs.Laws.{no, so}
use Rattle.engine_valid_values.proofs.Laws.{below_same}
use Rattle.engine_valid_telegrams.proofs.Laws.{name_of}
use Rattle.engine_valid_telegrams.proofs.external_fits.Goals as goal

pub returns-then-both_external : goal.returns-then-both_external
unfolding external_fits telegram_in
returns-then-both_external c = first_fails_lem _ _ (ap not (sym c.both_external.ensures ∙ c.if-both_external.true))

pub returns-then-not-below_at : goal.returns-then-not-below_at
unfolding external_fits telegram_in
returns-then-not-below_at c = rest_fails _ _ (first_fails_lem _ _ (no (below_same _ _ _ _ c.below_at.ensures c.ports.ensures.0) (ap not c.if-not-below_at.true)))

pub returns : goal.returns
unfolding external_fits telegram_in
returns c = first_holds _ _ _ (ap not (sym c.both_external.ensures ∙ c.if-both_external.false))
    (first_holds _ _ _ (so (below_same _ _ _ _ c.below_at.ensures c.ports.ensures.0) (ap not c.if-not-below_at.false)) (c.name_fits.ensures ∙ name_of _ _ _ _))
