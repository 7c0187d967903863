use Prim.Native.Nat.{ℕ, ◌-◌}
use mathlib.Core.Path.{◌≡◌, refl, sym, ap, ◌∙◌}
use mathlib.Core.List.{List}
use native.Mathlib.Omega.{arith}
use lib.ListN.{length, length-replicate}
use lib.IntN.{pos}
use Rattle.sheet_rules.specs.Fields.{field_of, field_at, sum_below, components_of, externals_of, elements_of}
use Rattle.sheet_rules.specs.Bindings.{first_binding}
use Rattle.sheet_rules.proofs.Bindings.{first_most}
use Rattle.machine.specs.State.{cell_at, place_at, state_length}
use Rattle.machine_passed.proofs.Records.{cells_limit}
use Rattle.engine_cells.proofs.Laws.{bound-there, bound-inside, bound_next, binding_next}
use Rattle.engine_defaults.proofs.State.{filled_none, filled_more, filled_all}
use Rattle.engine_defaults.proofs.default_state.Goals as goal

counted : (s : List ℕ) (n x k : ℕ) → n ≡ field_at s 0 0 0 → x ≡ field_at s 0 0 1 → k ≡ n - x → k ≡ elements_of s
unfolding elements_of components_of externals_of field_at field_of
counted s n x k e f a = omega arith

pub loop-i-init : goal.loop-i-init
unfolding sum_below first_binding
loop-i-init c = let whole = ap length c.zero.ensures ∙ length-replicate _ (pos 0) ∙ c.requires.1 in
    (omega arith, counted _ _ _ _ c.field_at-components.ensures.0 c.field_at.ensures.0 c.saturating_sub-count.ensures, whole, refl, filled_none _ c.requires.0 _ whole, refl)

pub prove-unreachable-requires : goal.prove-unreachable-requires
prove-unreachable-requires c = absurd
    (let inv = c.loop-i.invariant in
    let l = c.loop-i-test.true in
    let none = sym c.chart_bound.ensures ∙ c.in_default.is in
    bound-there _ c.requires.0 _ _ (omega (arith, inv.1)) inv.5 none)

pub default_cells-cell-requires : goal.default_cells-cell-requires
unfolding cell_at place_at state_length
default_cells-cell-requires c = let l = c.loop-i-test.true in
    let e = c.loop-i.invariant.1 in
    let i = bound-inside _ c.requires.0 _ _ (omega arith) c.loop-i.invariant.5 _ (sym c.chart_bound.ensures ∙ c.in-Some.is) _ c.loop-i.invariant.3 in
    let v = cells_limit _ c.requires.0 in
    let w = c.loop-i.invariant.2 in
    record { few = omega arith; inside = omega arith }

pub overflow_add-k : goal.overflow_add-k
overflow_add-k c = let l = c.loop-i-test.true in
    record { fits = omega (arith, c.loop-i.invariant.5, (first_most c.args.sheet.now.sheet.now c.loop-i.i).1, c.field_at-components.ensures.1, c.saturating_sub-count.ensures, c.records_for-k.ensures.1) }

pub loop-i-preserved : goal.loop-i-preserved
loop-i-preserved c = let l = c.loop-i-test.true in
    let i = c.loop-i.invariant in
    let e = i.1 in
    let p = sym c.chart_bound.ensures ∙ c.in-Some.is in
    let x = c.default_cells-cell.ensures in
    (omega arith, e, c.st-in-loop-i-1.given ∙ i.2, x.0 ∙ bound_next _ c.requires.0 _ _ (omega arith) i.5 _ p _ i.3, filled_more _ c.requires.0 _ _ _ _ _ _ _ _ (omega arith) i.5 p i.3 x.1 x.0 i.4, binding_next _ c.requires.0 _ _ (omega arith) i.5 _ p _ c.records_for-k.ensures.0)

pub shape_of-st : goal.shape_of-st
shape_of-st c = c.loop-i.invariant.2 ∙ sym c.requires.1

pub returns : goal.returns
returns c = let zeros = c.zero.ensures in
    let inv = c.loop-i.invariant in
    let e = inv.1 in
    let l = inv.0 in
    let m = c.loop-i-test.false in
    filled_all _ c.requires.0 _ _ _ _ _ c.requires.1 zeros (omega arith) (omega arith) inv.3 inv.4
