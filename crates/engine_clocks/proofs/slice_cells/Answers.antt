use Prim.Native.Nat.{ℕ, ◌+◌}
use native.Mathlib.Omega.{arith}
use mathlib.Core.Path.{sym, ap, subst, ◌∙◌}
use Rattle.std.proofs.lemmas.Result.{err_from_is_err_and}
use Rattle.sheet_rules.specs.Fields.{type_at}
use Rattle.machine.specs.State.{cell_at}
use Rattle.machine.specs.Play.{sliced_cell}
use Rattle.engine_queue.specs.Changed.{changed_to}
use Rattle.engine_ticks.proofs.Laws.{then_refused, then_done, goes_on_lem}
use Rattle.engine_clocks.specs.Cells.{Cell}
use Rattle.engine_clocks.proofs.Onward.{pass_first_lem, pass_next, cells-first, cells_here, cells-end, cell_now}
use Rattle.engine_clocks.proofs.slice_cells.Goals as goal

pub loop-j-init : goal.loop-j-init
loop-j-init c = (omega arith, pass_first_lem _ _ c.args.c _ c.requires.3, cells-first _ _ c.args.c _)

pub overflow_add-row : goal.overflow_add-row
overflow_add-row c = let k = c.requires.1 in let l = c.loop-j-test.true in record { fits = omega arith }

pub bounds-yard-row : goal.bounds-yard-row
bounds-yard-row c = let k = c.requires.1 in let l = c.loop-j-test.true in omega arith

pub slice_cell-requires : goal.slice_cell-requires
slice_cell-requires c = let s = c.args.yard.now.sheet.sheet.now in
    let x = c.args.c in
    let j = c.loop-j.j in
    let l = c.loop-j-test.true in
    let row = c.requires.4 j (omega arith) in
    let here = cell_now s c.args.e x _ c.requires.3 j l _ c.loop-j.invariant.1 in
    (c.requires.0, c.requires.2, subst (λ (i : ℕ). Cell s c.args.e (type_at s (x.f2 + j)) c.loop-j.st i) (sym row) here)

pub returns-in_err-slice_cell : goal.returns-in_err-slice_cell
returns-in_err-slice_cell c = let s = c.args.yard.now.sheet.sheet.now in
    let x = c.args.c in
    let j = c.loop-j.j in
    let l = c.loop-j-test.true in
    let row = c.requires.4 j (omega arith) in
    let here = ap (λ (i : ℕ). sliced_cell s c.args.e (type_at s (x.f2 + j)) (cell_at i) c.loop-j.st) (sym row) ∙ c.in_err-slice_cell.ensures in
    c.loop-j.invariant.2 ∙ cells_here s c.args.e x _ c.requires.3 j l _ ∙ (let p = err_from_is_err_and c.from_residual.result c.from_residual.ensures.1 in rw (p.1, p.2) (then_refused _ _ _ _ _ here))

pub loop-j-preserved : goal.loop-j-preserved
loop-j-preserved c = let s = c.args.yard.now.sheet.sheet.now in
    let x = c.args.c in
    let j = c.loop-j.j in
    let l = c.loop-j-test.true in
    let row = c.requires.4 j (omega arith) in
    let here = ap (λ (i : ℕ). sliced_cell s c.args.e (type_at s (x.f2 + j)) (cell_at i) c.loop-j.st) (sym row) ∙ c.in_ok-slice_cell.ensures in
    (omega arith, pass_next s c.args.e x _ c.requires.3 j l _ _ c.loop-j.invariant.1 (goes_on_lem _ _ _ here), c.loop-j.invariant.2 ∙ cells_here s c.args.e x _ c.requires.3 j l _ ∙ then_done _ _ _ _ here)

pub returns : goal.returns
unfolding changed_to
returns c = c.loop-j.invariant.2 ∙ cells-end _ _ _ _ _ _ _ c.loop-j-test.false
