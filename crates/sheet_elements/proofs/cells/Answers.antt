use native.Mathlib.Omega.{arith}
use mathlib.Core.Path.{◌≡◌, refl, sym, ap, ◌∙◌}
use mathlib.Core.List.{List}
use Prim.Native.Nat.{ℕ, ◌+◌, ◌-◌, ◌≤◌}
use Rattle.sheet_rules.specs.Fields.{field_of, field_at, sum_below, components_of, externals_of, elements_of}
use Rattle.sheet_rules.specs.Bindings.{behind, first_binding}
use Rattle.sheet_rules.specs.Shape.{cells_bound, cells_of}
use Rattle.sheet_rules.proofs.Bindings.{first_next, first_most}
use Rattle.sheet_elements.proofs.Laws.{sum_next}
use Rattle.sheet_elements.proofs.cells.Goals as goal

all-summed : (s : List ℕ) (n x i sum : ℕ) → n ≡ field_at s 0 0 0 → x ≡ field_at s 0 0 1 → i ≡ n - x → sum ≡ sum_below i (cells_bound s) → sum ≡ cells_of s
unfolding cells_of elements_of components_of externals_of field_at field_of
all-summed s n x i sum e f a p = let same : elements_of s ≡ i = omega arith in rw same p

pub loop-init : goal.loop-init
unfolding sum_below first_binding
loop-init c = (omega arith, refl, refl)

pub record_behind-k-requires : goal.record_behind-k-requires
record_behind-k-requires c = omega (arith, c.field_at-components.ensures.1, c.saturating_sub-end.ensures, c.loop.invariant.2, c.loop-test.true, (first_most c.args.sheet.now.sheet.now c.loop.counter).1)

pub loop-preserved : goal.loop-preserved
loop-preserved c = let x = c.loop.invariant in
    let y = c.cells_bound-sum.ensures in
    (omega (arith, y.1), sum_next (cells_bound _) _ _ _ x.1 (y.0 _ x.2), c.record_behind-k.ensures.0 ∙ ap (behind _) x.2 ∙ sym (first_next _ _))

pub returns : goal.returns
returns c = all-summed _ _ _ _ _ c.field_at-components.ensures.0 c.field_at-externals.ensures.0 (omega (arith, c.saturating_sub-end.ensures, c.loop-test.false)) c.loop.invariant.1
