use Prim.Native.Nat.{◌-◌}
use mathlib.Core.Path.{refl, ◌∙◌}
use native.Mathlib.Omega.{arith}
use borrow.Author.Rules.{rules}
use Rattle.machine.specs.State.{cell_at}
use Rattle.engine_rows.proofs.Laws.{given}
use Rattle.engine_defaults.proofs.State.{alike-none, alike_next, alike_all}
use Rattle.engine_defaults.proofs.cells_alike.Goals as goal

pub loop-k-init : goal.loop-k-init
loop-k-init c = (omega arith, refl, alike-none _ _ _)

pub cell_at-requires : goal.cell_at-requires
unfolding cell_at
cell_at-requires c = search rules

pub set_cell-requires : goal.set_cell-requires
unfolding cell_at
set_cell-requires c = search rules

pub loop-k-preserved : goal.loop-k-preserved
unfolding cell_at
loop-k-preserved c = let l = c.loop-k-test.true in
    let k = c.requires.inside in
    (omega arith, c.st-1.given ∙ c.loop-k.invariant.1, alike_next _ _ _ c.loop-k.k _ c.loop-k.st _ (omega arith) c.cell_at.ensures c.loop-k.invariant.2 c.set_cell.ensures)

pub shape_of-st : goal.shape_of-st
shape_of-st c = c.loop-k.invariant.1

pub returns : goal.returns
returns c = let inv = c.loop-k.invariant in
    rw (given c.args.z c.ranges.z.sfits) at (alike_all _ _ _ _ _ _ inv.0 c.loop-k-test.false inv.2)
