use mathlib.Core.Path.{sym, ◌∙◌, ap}
use Rattle.sheet.proofs.All.{first_fails_lem, first_holds}
use Rattle.sheet_types.proofs.Laws.{no, so}
use Rattle.engine_valid_cells.proofs.Laws.{stopped, runs}
use mathlib.Core.Bool.{not}
use Rattle.engine_valid_cells.proofs.clock_cell.Goals as goal

pub returns-then-zero_at : goal.returns-then-zero_at
returns-then-zero_at c e p = c.zero_words.ensures ∙ stopped _ _ _ _ _ (sym c.zero_at.ensures ∙ c.if-zero_at.true)

pub returns-then-not-below_at : goal.returns-then-not-below_at
returns-then-not-below_at c e p = first_fails_lem _ _ (no c.below_at.ensures (ap not c.if-not-below_at.true)) ∙ runs _ _ _ _ _ (sym c.zero_at.ensures ∙ c.if-zero_at.false)

pub returns : goal.returns
returns c e p = first_holds _ _ _ (so c.below_at.ensures (ap not c.if-not-below_at.false)) (c.running_clock.ensures e p)
    ∙ runs _ _ _ _ _ (sym c.zero_at.ensures ∙ c.if-zero_at.false)
