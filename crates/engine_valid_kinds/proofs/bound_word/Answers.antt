use mathlib.Core.Bool.{not}
use mathlib.Core.Path.{ap}
use Rattle.sheet.proofs.All.{first_fails_lem, first_holds}
use Rattle.sheet_types.proofs.Laws.{no, so}
use Rattle.engine_valid_values.proofs.Laws.{below_same}
use Rattle.engine_valid_kinds.proofs.bound_word.Goals as goal

pub returns-then-not-below_at : goal.returns-then-not-below_at
returns-then-not-below_at c = first_fails_lem _ _ (no (below_same _ _ _ _ c.below_at.ensures c.components.ensures.0) (ap not c.if-not-below_at.true))

pub returns : goal.returns
returns c = first_holds _ _ _ (so (below_same _ _ _ _ c.below_at.ensures c.components.ensures.0) (ap not c.if-not-below_at.false)) (ap not (below_same _ _ _ _ c.below_at-2.ensures c.externals.ensures.0))
