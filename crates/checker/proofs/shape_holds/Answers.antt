use native.Mathlib.Omega.{arith}
use mathlib.Core.Path.{◌≡◌, sym, ◌∙◌}
use mathlib.Core.Bool.{true}
use mathlib.Core.List.{List}
use Prim.Native.Nat.{ℕ, ◌+◌, ◌-◌}
use borrow.Author.Tests.{le-leb, lt-leb, eq-eqb, ne_eqb, not-true, not-false}
use Rattle.sheet.proofs.All.{first_fails_lem, rest_fails, first_holds}
use Rattle.sheet.specs.Sheet.{count_of, directory_right}
use Rattle.sheet.proofs.Sheet.{count_some}
use Rattle.sheet_rules.specs.Fields.{field_of, field_at, components_of, externals_of}
use Rattle.sheet_rules.specs.Bindings.{elements_bound_in}
use Rattle.sheet_rules.specs.Shape.{elements_bound}
use Rattle.sheet_rules.specs.Check.{shape_with, shape}
use Rattle.checker.proofs.shape_holds.Goals as goal

right-with-head : (s : List ℕ) (n : ℕ) → n ≡ count_of s 0 → n ≡ 1 → directory_right s ≡ true
right-with-head s n e one = (count_some s 0 0 (omega arith)).0

module _ (s : List ℕ) (x y n : ℕ) (p : x ≡ field_at s 0 0 1) (q : y ≡ field_at s 0 0 0) (e : n ≡ elements_bound_in s) where
  bound : x + n ≡ y → externals_of s + elements_bound_in s ≡ components_of s
  unfolding externals_of components_of field_at field_of
  bound h = rw (← p, ← q, ← e) h

  bound-back : externals_of s + elements_bound_in s ≡ components_of s → x + n ≡ y
  unfolding externals_of components_of field_at field_of
  bound-back h = rw (p, q, e) h

pub returns-then-count-ne1 : goal.returns-then-count-ne1
unfolding shape shape_with
returns-then-count-ne1 c = rest_fails _ _ (first_fails_lem _ _ (ne_eqb _ _ (λ e. c.if-count-ne1.true (c.count.ensures ∙ e))))

pub returns-then-not-sections_fit : goal.returns-then-not-sections_fit
unfolding shape shape_with
returns-then-not-sections_fit c = rest_fails _ _ (rest_fails _ _ (first_fails_lem _ _ (sym c.sections_fit.ensures ∙ c.if-not-sections_fit.true)))

pub returns-then-not-bodies_covered : goal.returns-then-not-bodies_covered
unfolding shape shape_with
returns-then-not-bodies_covered c = rest_fails _ _ (rest_fails _ _ (rest_fails _ _ (first_fails_lem _ _ (sym c.bodies_covered.ensures ∙ c.if-not-bodies_covered.true))))

pub overflow_add-externals : goal.overflow_add-externals
overflow_add-externals c = omega (arith, c.field_at-externals.ensures.1, c.elements_bound.ensures.1)

pub returns-then-externals-elements_bound : goal.returns-then-externals-elements_bound
unfolding shape shape_with elements_bound
returns-then-externals-elements_bound c = rest_fails _ _ (rest_fails _ _ (rest_fails _ _ (rest_fails _ _ (first_fails_lem _ _ (ne_eqb _ _ (λ e. c.if-externals-elements_bound.true (bound-back _ _ _ _ c.field_at-externals.ensures.0 c.field_at-components.ensures.0 c.elements_bound.ensures.0 e)))))))

pub returns-then-cells-gt512 : goal.returns-then-cells-gt512
unfolding shape shape_with
returns-then-cells-gt512 c = rest_fails _ _ (rest_fails _ _ (rest_fails _ _ (rest_fails _ _ (rest_fails _ _ (first_fails_lem _ _ (lt-leb _ _ (rw c.cells.ensures at c.if-cells-gt512.true)))))))

pub used_once-tested-requires : goal.used_once-tested-requires
used_once-tested-requires c = record { nodes_in_bounds = c.requires.nodes_in_bounds }

pub shape_of-marks-then-not-tested : goal.shape_of-marks-then-not-tested
shape_of-marks-then-not-tested c = c.used_once-tested.ensures.long

pub returns-then-not-tested : goal.returns-then-not-tested
unfolding shape shape_with
returns-then-not-tested c = rest_fails _ _ (rest_fails _ _ (rest_fails _ _ (rest_fails _ _ (rest_fails _ _ (rest_fails _ _ (first_fails_lem _ _ (sym c.used_once-tested.ensures.once ∙ not-true _ c.if-not-tested.true)))))))

pub shape_of-marks : goal.shape_of-marks
shape_of-marks c = c.used_once-tested.ensures.long

pub returns : goal.returns
unfolding shape shape_with elements_bound
returns c = let sections-fit-is = sym c.sections_fit.ensures ∙ c.if-not-sections_fit.false in
    let bodies-covered-is = sym c.bodies_covered.ensures ∙ c.if-not-bodies_covered.false in
    let used-once-is = sym c.used_once-tested.ensures.once ∙ not-false _ c.if-not-tested.false in
    let bound-here = bound _ _ _ _ c.field_at-externals.ensures.0 c.field_at-components.ensures.0 c.elements_bound.ensures.0 c.if-externals-elements_bound.false in
    let count-opened-here = c.count.ensures in
    let if1-is = sym count-opened-here ∙ c.if-count-ne1.false in
    first_holds _ _ _ (right-with-head _ _ count-opened-here c.if-count-ne1.false)
    (first_holds _ _ _ (eq-eqb _ _ if1-is)
    (first_holds _ _ _ sections-fit-is
    (first_holds _ _ _ bodies-covered-is
    (first_holds _ _ _ (eq-eqb _ _ bound-here)
    (first_holds _ _ _ (le-leb _ _ (rw c.cells.ensures at c.if-cells-gt512.false)) (first_holds _ _ _ used-once-is c.nodes_fit.ensures))))))
