use native.Mathlib.Omega.{arith}
use mathlib.Core.Path.{sym, ap, ◌∙◌}
use lib.ListN.{get_or}
use lib.IntN.{pos}
use borrow.Author.Rules.{rules}
use Rattle.machine.specs.State.{cell_at, place_at, state_length, word_of}
use Rattle.machine.specs.Play.{ticks}
use Rattle.engine_queue.specs.Changed.{changed_to}
use Rattle.engine_ticks.proofs.Laws.{bits_zero, bits_some}
use Rattle.engine_clocks.proofs.Cells.{cell_stopped, cell_data, cell_ticks, no_clock_lem, cell_runs, cell_named, is_clock_lem, not_timer}
use Rattle.engine_clocks.proofs.slice_cell.Goals as goal

pub cell_at-at-requires : goal.cell_at-at-requires
unfolding cell_at
cell_at-at-requires c = let l = c.requires.1 in let i = c.requires.2.inside in omega arith

pub offset_bounds-st-at : goal.offset_bounds-st-at
unfolding cell_at
offset_bounds-st-at c = let e = c.cell_at-at.ensures in let l = c.requires.1 in let i = c.requires.2.inside in omega arith

pub slice_copy_out-t-9 : goal.slice_copy_out-t-9
unfolding cell_at place_at state_length
slice_copy_out-t-9 c = let e = c.cell_at-at.ensures in let i = c.requires.2.inside in let m = c.requires.2.whole in omega arith

pub returns-then-st-at-eq0 : goal.returns-then-st-at-eq0
unfolding changed_to word_of
returns-then-st-at-eq0 c = let st = c.args.st.now in
    rw (← c.cell_at-at.ensures) (cell_stopped _ _ _ _ _ (bits_zero (get_or st c.cell_at-at.result (pos 0)) (search rules) c.if-st-at-eq0.true))

pub tick_timer-requires : goal.tick_timer-requires
unfolding word_of
tick_timer-requires c = let args = c.args in
    let some = bits_some (get_or args.st.now c.cell_at-at.result (pos 0)) (search rules) c.if-st-at-eq0.false in
    cell_runs _ _ _ _ _ _ c.cell_at-at.ensures c.requires.2 (is_clock_lem 4 _ c.type_at.ensures c.in-4.is (omega arith) (omega arith)) some

pub returns-in-4 : goal.returns-in-4
unfolding word_of
returns-in-4 c = let args = c.args in
    let some = bits_some (get_or args.st.now c.cell_at-at.result (pos 0)) (search rules) c.if-st-at-eq0.false in
    let clock = is_clock_lem 4 _ c.type_at.ensures c.in-4.is (omega arith) (omega arith) in
    rw (← c.cell_at-at.ensures)
    (cell_ticks _ _ _ _ _ clock some
    ∙ ap (λ k. ticks args.sheet.now.sheet.now args.e k c.cell_at-at.result args.st.now) (sym c.type_at.ensures ∙ c.in-4.is)
    ∙ c.tick_timer.ensures _ _)

pub tick_timeout-requires : goal.tick_timeout-requires
unfolding word_of
tick_timeout-requires c = let args = c.args in
    let some = bits_some (get_or args.st.now c.cell_at-at.result (pos 0)) (search rules) c.if-st-at-eq0.false in
    (cell_runs _ _ _ _ _ _ c.cell_at-at.ensures c.requires.2 (is_clock_lem 5 _ c.type_at.ensures c.in-5.is (omega arith) (omega arith)) some, c.requires.0)

pub returns-in-5 : goal.returns-in-5
unfolding word_of
returns-in-5 c = let args = c.args in
    let some = bits_some (get_or args.st.now c.cell_at-at.result (pos 0)) (search rules) c.if-st-at-eq0.false in
    let clock = is_clock_lem 5 _ c.type_at.ensures c.in-5.is (omega arith) (omega arith) in
    rw (← c.cell_at-at.ensures)
    (cell_ticks _ _ _ _ _ clock some
    ∙ ap (λ k. ticks args.sheet.now.sheet.now args.e k c.cell_at-at.result args.st.now) (sym c.type_at.ensures ∙ c.in-5.is)
    ∙ c.tick_timeout.ensures _ c.requires.2.whole (cell_named _ _ _ _ _ _ c.cell_at-at.ensures c.requires.2 clock some (not_timer 5 _ c.type_at.ensures c.in-5.is (omega arith))))

pub tick_cycler-requires : goal.tick_cycler-requires
unfolding word_of
tick_cycler-requires c = let args = c.args in
    let some = bits_some (get_or args.st.now c.cell_at-at.result (pos 0)) (search rules) c.if-st-at-eq0.false in
    (cell_runs _ _ _ _ _ _ c.cell_at-at.ensures c.requires.2 (is_clock_lem 6 _ c.type_at.ensures c.in-6.is (omega arith) (omega arith)) some, c.requires.0)

pub returns-in-6 : goal.returns-in-6
unfolding word_of
returns-in-6 c = let args = c.args in
    let some = bits_some (get_or args.st.now c.cell_at-at.result (pos 0)) (search rules) c.if-st-at-eq0.false in
    let clock = is_clock_lem 6 _ c.type_at.ensures c.in-6.is (omega arith) (omega arith) in
    rw (← c.cell_at-at.ensures)
    (cell_ticks _ _ _ _ _ clock some
    ∙ ap (λ k. ticks args.sheet.now.sheet.now args.e k c.cell_at-at.result args.st.now) (sym c.type_at.ensures ∙ c.in-6.is)
    ∙ c.tick_cycler.ensures _ c.requires.2.whole (cell_named _ _ _ _ _ _ c.cell_at-at.ensures c.requires.2 clock some (not_timer 6 _ c.type_at.ensures c.in-6.is (omega arith))))

pub returns-in_default : goal.returns-in_default
unfolding changed_to
returns-in_default c = cell_data _ _ _ _ _ (no_clock_lem _ (λ q. omega arith) (λ q. omega arith) (λ q. omega arith))
