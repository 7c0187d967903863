use native.Mathlib.Omega.{arith}
use mathlib.Core.Path.{refl, ap, ◌∙◌}
use Prim.Native.Nat.{ℕ, ◌*◌, ◌-◌}
use Rattle.sheet.specs.All.{all_below}
use Rattle.sheet.proofs.All.{all_more, loop_fails, loop_ends}
use Rattle.sheet_types.proofs.Laws.{no, so}
use Rattle.machine_states.proofs.Elements.{element_from}
use Rattle.engine_valid_elements.proofs.Laws.{element_is, row_inside, cell_rises, cells_in, variable_judged}
use mathlib.Core.Bool.{not}
use Rattle.engine_valid_elements.proofs.element_fits.Goals as goal

pub overflow_sub-row : goal.overflow_sub-row
overflow_sub-row c = omega (arith, c.externals.ensures.0, element_from _ _ _ c.requires.1)

pub overflow_mul-row : goal.overflow_mul-row
overflow_mul-row c = let row = ap (λ (n : ℕ). 34 * (c.args.e - n)) c.externals.ensures.0 in
    let l = row_inside _ _ c.args.yard.now.passed c.args.yard.now.table _ c.requires.0 _ _ c.requires.1 _ row 0 (omega arith) in
    omega arith

pub loop-j-init : goal.loop-j-init
unfolding all_below
loop-j-init c = let row = ap (λ (n : ℕ). 34 * (c.args.e - n)) c.externals.ensures.0 in
    (omega arith, row_inside _ _ c.args.yard.now.passed c.args.yard.now.table _ c.requires.0 _ _ c.requires.1 _ row _ (omega arith), row, refl)

pub overflow_sub-n : goal.overflow_sub-n
overflow_sub-n c = cell_rises _ _ c.args.yard.now.passed c.args.yard.now.table _ c.requires.0 _ _ c.requires.1 _ c.loop-j.invariant.2 c.loop-j.j c.loop-j-test.true

pub variable_fits-requires : goal.variable_fits-requires
variable_fits-requires c = cells_in _ _ c.args.yard.now.passed c.args.yard.now.table _ c.requires.0 _ _ c.requires.1 _ c.loop-j.invariant.2 c.loop-j.j c.loop-j-test.true

pub returns-then-not-variable_fits : goal.returns-then-not-variable_fits
returns-then-not-variable_fits c = let below = c.loop-j-test.true in
    let judged = variable_judged _ _ c.args.yard.now.passed c.args.yard.now.table _ c.requires.0 _ _ c.requires.1 _ c.loop-j.invariant.2 c.loop-j.j below _ c.type_at-t.ensures _ (c.variable_fits.ensures _ c.requires.1) in
    loop_fails _ _ _ _ refl below (no judged (ap not c.if-not-variable_fits.true)) ∙ element_is _ _ _ _ c.requires.1

pub loop-j-preserved : goal.loop-j-preserved
loop-j-preserved c = let below = c.loop-j-test.true in
    let judged = variable_judged _ _ c.args.yard.now.passed c.args.yard.now.table _ c.requires.0 _ _ c.requires.1 _ c.loop-j.invariant.2 c.loop-j.j below _ c.type_at-t.ensures _ (c.variable_fits.ensures _ c.requires.1) in
    (omega arith, c.loop-j.invariant.1, c.loop-j.invariant.2, all_more c.loop-j.j _ c.loop-j.invariant.3 (so judged (ap not c.if-not-variable_fits.false)))

pub returns : goal.returns
returns c = loop_ends _ _ _ _ refl c.loop-j.invariant.0 c.loop-j-test.false c.loop-j.invariant.3 ∙ element_is _ _ _ _ c.requires.1
