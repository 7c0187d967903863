use Prim.Native.Nat.{◌-◌}
use native.Mathlib.Omega.{arith}
use Rattle.machine_states.proofs.Elements.{variable-cells}
use Rattle.engine_cells.proofs.Laws.{row-none, row_more, row_whole, next_cell, no_cells}
use Rattle.engine_cells.proofs.fill_row.Goals as goal

pub loop-n-init : goal.loop-n-init
loop-n-init c = (omega arith, no_cells _ _ _, row-none _ _ _ _ _ c.requires.0)

pub overflow_add-next : goal.overflow_add-next
overflow_add-next c = let l = c.loop-n-test.true in
    let b = c.requires.3 in
    let e = c.loop-n.invariant.1 in
    let a = c.args in
    record { fits = omega (arith, c.cells_taken-taken.ensures.0, variable-cells a.sheet.now.sheet.now a.c c.loop-n.n _ l) }

pub loop-n-preserved : goal.loop-n-preserved
loop-n-preserved c = let l = c.loop-n-test.true in
    let b = c.requires.1 in
    let k = c.requires.2 in
    let e = c.loop-n.invariant.1 in
    let next = next_cell _ c.args.c _ _ _ _ e c.cells_taken-taken.ensures.0 in
    (omega arith, next, row_more _ _ _ _ _ _ _ _ (omega arith) e c.loop-n.invariant.2)

pub returns : goal.returns
returns c = let l = c.loop-n-test.false in
    let b = c.requires.1 in
    let k = c.requires.2 in
    let m = c.loop-n.invariant.0 in
    row_whole _ c.args.c _ _ _ _ _ _ (omega arith) (omega arith) c.loop-n.invariant.1 c.loop-n.invariant.2
