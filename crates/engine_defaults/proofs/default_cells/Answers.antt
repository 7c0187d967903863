use Prim.Native.Nat.{◌-◌}
use mathlib.Core.Path.{refl, ◌∙◌}
use native.Mathlib.Omega.{arith}
use Rattle.machine.specs.State.{cell_at}
use Rattle.machine_states.proofs.Elements.{variable-cells}
use Rattle.engine_rows.proofs.Laws.{given}
use Rattle.engine_cells.proofs.Laws.{no_cells, next_cell}
use Rattle.engine_defaults.proofs.State.{written_none, written_more_lem, written_all}
use Rattle.engine_defaults.proofs.default_cells.Goals as goal

pub loop-j-init : goal.loop-j-init
loop-j-init c = (omega arith, refl, no_cells _ _ _, written_none _ c.args.c _ _)

pub cells_alike-requires : goal.cells_alike-requires
unfolding cell_at
cells_alike-requires c = let l = c.loop-j-test.true in
    let v = variable-cells c.args.sheet.now.sheet.now c.args.c c.loop-j.j _ l in
    let e = c.loop-j.invariant.2 in
    let h = c.loop-j.invariant.1 in
    let x = c.cells_taken-taken.ensures.0 in
    let w = c.requires.few in
    let k = c.requires.inside in
    record { few = omega arith; inside = omega arith }

pub overflow_add-next : goal.overflow_add-next
overflow_add-next c = let l = c.loop-j-test.true in
    let e = c.loop-j.invariant.2 in
    let v = variable-cells c.args.sheet.now.sheet.now c.args.c c.loop-j.j _ l in
    let w = c.requires.few in
    let x = c.cells_taken-taken.ensures.0 in
    record { fits = omega arith }

pub loop-j-preserved : goal.loop-j-preserved
unfolding cell_at
loop-j-preserved c = let l = c.loop-j-test.true in
    let args = c.args in
    let e = c.loop-j.invariant.2 in
    let v = variable-cells args.sheet.now.sheet.now args.c c.loop-j.j _ l in
    let w = c.requires.inside in
    let x = c.cells_taken-taken.ensures.0 in
    let z = given c.default_of-z.result c.default_of-z.type_inv ∙ c.default_of-z.ensures in (
      omega arith,
      c.st-1.given ∙ c.loop-j.invariant.1,
      next_cell _ args.c _ _ _ _ e x,
      written_more_lem _ args.c _ _ c.loop-j.st _ _ c.type_at-t.result _ _ _ (omega arith) c.type_at-t.ensures z x e c.cells_alike.ensures c.loop-j.invariant.3,
    )

pub shape_of-st : goal.shape_of-st
shape_of-st c = c.loop-j.invariant.1

pub returns : goal.returns
returns c = let l = c.loop-j-test.false in let m = c.loop-j.invariant.0 in written_all _ c.args.c _ _ _ _ _ (omega arith) c.loop-j.invariant.2 c.loop-j.invariant.3
