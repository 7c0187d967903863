use native.Mathlib.Omega.{arith}
use mathlib.Core.Path.{refl, ap}
use Prim.Native.Nat.{◌-◌}
use borrow.Author.Rules.{rules}
use Rattle.sheet.specs.All.{all_below}
use Rattle.sheet.proofs.All.{all_more, loop_fails, loop_ends}
use Rattle.sheet_types.proofs.Laws.{no, so}
use Rattle.machine.specs.State.{cell_at}
use Rattle.engine_valid_elements.proofs.Laws.{cell_judged}
use mathlib.Core.Bool.{not}
use Rattle.engine_valid_elements.proofs.variable_fits.Goals as goal

pub loop-k-init : goal.loop-k-init
unfolding all_below
loop-k-init c = (omega arith, λ e p. refl)

pub cell_at-at-requires : goal.cell_at-at-requires
unfolding cell_at
cell_at-at-requires c = search rules

pub cell_fits-requires : goal.cell_fits-requires
unfolding cell_at
cell_fits-requires c = let l = c.loop-k-test.true in
    let h = c.requires.inside in
    let e = c.cell_at-at.ensures in
    omega arith

pub returns-then-not-cell_fits : goal.returns-then-not-cell_fits
returns-then-not-cell_fits c e p = let judged = cell_judged _ _ _ _ _ _ _ c.cell_at-at.ensures (c.cell_fits.ensures e p) in
    loop_fails _ _ c.loop-k.k _ refl c.loop-k-test.true (no judged (ap not c.if-not-cell_fits.true))

pub loop-k-preserved : goal.loop-k-preserved
loop-k-preserved c = (omega arith, λ e p. all_more c.loop-k.k _ (c.loop-k.invariant.1 e p) (so (cell_judged _ _ _ _ _ _ _ c.cell_at-at.ensures (c.cell_fits.ensures e p)) (ap not c.if-not-cell_fits.false)))

pub returns : goal.returns
returns c e p = loop_ends _ _ _ _ refl c.loop-k.invariant.0 c.loop-k-test.false (c.loop-k.invariant.1 e p)
