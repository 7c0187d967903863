use Prim.Native.Nat.{◌-◌, ◌<◌}
use mathlib.Core.Path.{refl, sym, ◌∙◌}
use native.Mathlib.Omega.{arith}
use Rattle.sheet_rules.specs.Fields.{sum_below, elements_of}
use Rattle.sheet_rules.specs.Bindings.{first_binding}
use Rattle.sheet_rules.proofs.Bindings.{first_most}
use Rattle.machine_passed.proofs.Records.{cells_limit}
use Rattle.engine_cells.proofs.Laws.{bound-there, bound-chart, chart_variables_lem, bound-inside, bound_next, binding_next, bound_all, rows_none, rows_more, rows_all}
use Rattle.engine_cells.proofs.fill.Goals as goal

pub loop-i-init : goal.loop-i-init
unfolding sum_below first_binding
loop-i-init c = (omega arith, refl, refl, rows_none _ _ c.requires.1)

pub prove-unreachable-requires : goal.prove-unreachable-requires
prove-unreachable-requires c = absurd
    (let ok = c.requires.0 in
    let l = c.loop-i-test.true in
    let s = c.args.sheet.now.sheet.now in
    let j = c.loop-i.i in
    let m : j < elements_of s = omega (arith, c.elements-count.ensures.0) in
    bound-there _ ok _ _ m c.loop-i.invariant.2 (sym c.chart_bound.ensures ∙ c.in_default.is))

pub overflow_mul-i : goal.overflow_mul-i
overflow_mul-i c = let l = c.loop-i-test.true in
    record { fits = omega (arith, c.elements-count.ensures.1) }

pub fill_row-cell-requires : goal.fill_row-cell-requires
fill_row-cell-requires c = let ok = c.requires.0 in
    let l = c.loop-i-test.true in
    let n = c.elements-count.ensures in
    let i = c.loop-i.invariant in
    let p = sym c.chart_bound.ensures ∙ c.in-Some.is in
    let s = c.args.sheet.now.sheet.now in
    let j = c.loop-i.i in
    let m : j < elements_of s = omega (arith, n.0) in
    let few = chart_variables_lem _ ok _ _ (bound-chart _ ok _ _ m i.2 _ p) in
    let inside = bound-inside _ ok _ _ m i.2 _ p _ i.1 in
    (i.3.size, few, omega (arith, n.1), omega (arith, inside, cells_limit _ ok))

pub overflow_mul-cells : goal.overflow_mul-cells
overflow_mul-cells c = let l = c.loop-i-test.true in
    record { fits = omega (arith, c.elements-count.ensures.1) }

pub overflow_add-cells : goal.overflow_add-cells
overflow_add-cells c = let l = c.loop-i-test.true in
    record { fits = omega (arith, c.elements-count.ensures.1) }

pub offset_bounds-cells-i : goal.offset_bounds-cells-i
offset_bounds-cells-i c = let l = c.loop-i-test.true in
    record { fits = omega (arith, c.elements-count.ensures.1) }

pub bounds-cells-i : goal.bounds-cells-i
bounds-cells-i c = let l = c.loop-i-test.true in
    omega (arith, c.elements-count.ensures.1)

pub overflow_add-k : goal.overflow_add-k
overflow_add-k c = let l = c.loop-i-test.true in
    let most = (first_most c.args.sheet.now.sheet.now c.loop-i.i).1 in
    record { fits = omega (arith, c.loop-i.invariant.2, most, c.elements-count.ensures.1, c.records_for-k.ensures.1) }

pub loop-i-preserved : goal.loop-i-preserved
loop-i-preserved c = let ok = c.requires.0 in
    let l = c.loop-i-test.true in
    let i = c.loop-i.invariant in
    let p = sym c.chart_bound.ensures ∙ c.in-Some.is in
    let s = c.args.sheet.now.sheet.now in
    let j = c.loop-i.i in
    let m : j < elements_of s = omega (arith, c.elements-count.ensures.0) in
    let cell = c.fill_row-cell.ensures.0 ∙ bound_next _ ok _ _ m i.2 _ p _ i.1 in
    let rows = rows_more _ ok _ _ _ _ _ _ m i.2 p i.1 c.fill_row-cell.ensures.1 i.3 in
    (omega arith, cell, binding_next _ ok _ _ m i.2 _ p _ c.records_for-k.ensures.0, rows)

pub returns : goal.returns
returns c = let ok = c.requires.0 in
    let l = c.loop-i-test.false in
    let n = c.elements-count.ensures.0 in
    let i = c.loop-i.invariant in
    (bound_all _ ok _ _ (omega (arith, i.0)) (omega arith) i.1, rows_all _ ok _ _ (omega arith) i.3)
