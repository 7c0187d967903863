use mathlib.Core.Path.{sym, ◌∙◌}
use Rattle.sheet.proofs.All.{first_fails_lem, first_holds}
use Rattle.engine_valid_words.proofs.Laws.{back}
use Rattle.engine_valid_cells.proofs.Laws.{of_timeout, of_cycler}
use Rattle.engine_valid_cells.proofs.value_fits.Goals as goal

pub returns-then-not-at_least : goal.returns-then-not-at_least
returns-then-not-at_least c = first_fails_lem _ _ (sym (rw (back c.ranges.value) at c.at_least.ensures) ∙ c.if-not-at_least.true) ∙ of_timeout _ _ _ c.if-t-eq5.true

pub returns-then-t-eq5 : goal.returns-then-t-eq5
returns-then-t-eq5 c = let fits = c.ranges in
    first_holds _ _ _ (sym (rw (back fits.value) at c.at_least.ensures) ∙ c.if-not-at_least.false)
    (rw (back fits.value, back fits.period) at c.at_least-then-t-eq5.ensures)
    ∙ of_timeout _ _ _ c.if-t-eq5.true

pub returns-then-not-at_least-2 : goal.returns-then-not-at_least-2
returns-then-not-at_least-2 c = first_fails_lem _ _ (sym (rw (back c.ranges.value) at c.at_least-2.ensures) ∙ c.if-not-at_least-2.true) ∙ of_cycler _ _ _ c.if-t-eq5.false

pub returns : goal.returns
returns c = let fits = c.ranges in
    first_holds _ _ _ (sym (rw (back fits.value) at c.at_least-2.ensures) ∙ c.if-not-at_least-2.false)
    (rw (back fits.value, back fits.period) at c.less.ensures)
    ∙ of_cycler _ _ _ c.if-t-eq5.false
