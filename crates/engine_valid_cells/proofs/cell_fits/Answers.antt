use mathlib.Core.Path.{sym, ◌∙◌, ap}
use Rattle.sheet.proofs.All.{first_fails_lem, first_holds}
use Rattle.sheet_types.proofs.Laws.{no, so}
use Rattle.engine_valid_cells.proofs.Laws.{clock_in, value_in}
use mathlib.Core.Bool.{not}
use Rattle.engine_valid_cells.proofs.cell_fits.Goals as goal

pub returns-then-is_clock : goal.returns-then-is_clock
returns-then-is_clock c e p = c.clock_cell.ensures e p ∙ clock_in _ _ _ _ _ (sym c.is_clock.ensures ∙ c.if-is_clock.true)

pub returns-then-not-value_at : goal.returns-then-not-value_at
returns-then-not-value_at c e p = first_fails_lem _ _ (no c.value_at.ensures (ap not c.if-not-value_at.true)) ∙ value_in _ _ _ _ _ (sym c.is_clock.ensures ∙ c.if-is_clock.false)

pub returns : goal.returns
returns c e p = first_holds _ _ _ (so c.value_at.ensures (ap not c.if-not-value_at.false)) c.zero_words.ensures
    ∙ value_in _ _ _ _ _ (sym c.is_clock.ensures ∙ c.if-is_clock.false)
