use Rattle.sheet.proofs.All.{first_fails_lem, first_holds}
use Rattle.machine.specs.Valid.{head_fits}
use Rattle.sheet_types.proofs.Laws.{no, so}
use mathlib.Core.Path.{ap}
use mathlib.Core.Bool.{not}
use Rattle.engine_valid_state.proofs.head_fits.Goals as goal

pub returns-then-not-below_at : goal.returns-then-not-below_at
unfolding head_fits
returns-then-not-below_at c = first_fails_lem _ _ (no c.below_at.ensures (ap not c.if-not-below_at.true))

pub returns : goal.returns
unfolding head_fits
returns c = first_holds _ _ _ (so c.below_at.ensures (ap not c.if-not-below_at.false)) c.zero_words.ensures
