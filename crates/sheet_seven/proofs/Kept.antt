-- On a sheet none of whose charts has more than seven parameters each definition that changed with M-105 gives what its text of before gives.
use Rattle.std.specs.Prelude.{Option, Some, None}
use Prim.Native.Nat.{ℕ, zero, suc, ◌+◌, ◌-◌, ◌≤◌, ◌<◌}
use mathlib.Core.Path.{◌≡◌, refl, sym, ap, ◌∙◌}
use mathlib.Core.List.{List}
use mathlib.Core.Bool.{Bool, true, false}
use native.Mathlib.Omega.{arith}
use native.Mathlib.Decide.{dec_lt, ℕ_discrete}
use lib.Dec.{eqb}
use borrow.Author.Tests.{leb-true, le-leb}
use Rattle.sheet.specs.declared.Record.{Record}
use Rattle.sheet.specs.All.{◌and◌, all_below}
use Rattle.sheet.specs.Table.{look_up}
use Rattle.sheet.specs.Names.{charts, bindings, chart_parameters, chart_variables, bound_chart}
use Rattle.sheet.specs.Sheet.{count_of, record_of}
use Rattle.sheet.proofs.All.{all-at, all_same}
use Rattle.sheet.proofs.Sheet.{record_present, present-below, count_none}
use Rattle.sheet_rules.specs.declared.Checked.{Checked}
use Rattle.sheet_rules.specs.declared.Checked.TheVariants.{Passed, Shape, Static}
use Rattle.sheet_rules.specs.Fields.{field_of, zero_from, holds, number_or0, sum_below, one_if, count_below, components_of, externals_of, elements_of, type_at}
use Rattle.sheet_rules.specs.Indices.{cells_before}
use Rattle.sheet_rules.specs.Bindings.{constants_in_record, chart_bound, behind, first_binding, elements_bound_in, constant_binding, constant_of}
use Rattle.sheet_rules.specs.Shape.{chart_shape, constant_shape, second_shape, constants_shape, records_shape, binding_shape, bindings_shape, elements_bound, cells_bound, cells_of, record_shape, each_shape, section_shape}
use Rattle.sheet_rules.specs.Uses.{constant_uses, uses_of, used_once}
use Rattle.sheet_rules.specs.Static.{constant_static, constants_static, binding_static, bindings_static, record_static, each_static, section_static, static}
use Rattle.sheet_rules.specs.Check.{sections_shape, shape_with, shape, check_of}
use Rattle.sheet_rules.proofs.Fields.{holds-present, number-present}
use Rattle.sheet_rules.proofs.Bindings.{one_record, bound-chart, chart-bound, behind-chart, behind-none, inside-bound, bound-inside, constant_first}
use Rattle.sheet_rules.proofs.Shape.{section-each, section-bindings, static-each, static-bindings}
use Rattle.sheet_rules.proofs.Sums.{sum_same}
use Rattle.sheet_seven.specs.Before as before
use Rattle.sheet_seven.specs.Kept.{up_to_seven, SheetKept}

and_true_last : (b : Bool) → b and true ≡ b
unfolding ◌and◌
and_true_last true = refl
and_true_last false = refl

module _ (s : List ℕ) (h : up_to_seven s ≡ true) where
  pub few : (k : ℕ) (c : Record) → record_of s charts k ≡ Some c → (chart_parameters c).count ≤ 7
  unfolding up_to_seven
  few k c e = leb-true _ _ (sym (holds-present _ c _ e) ∙ all-at (count_of s charts) _ h k (present-below s charts k c e))

  -- ---- one record for each element

  next : (k : ℕ) → behind s k ≡ k + 1
  next k = go (chart_bound s k) refl
    where
      go : (f : Option Record) → chart_bound s k ≡ f → behind s k ≡ k + 1
      go (Some c) e = let x = chart-bound s k c e in behind-chart s k c e ∙ ap (λ (n : ℕ). k + n) (one_record (chart_parameters c).count (few (bound_chart x.0) c x.2))
      go None e = behind-none s k e

  kept-first : (i : ℕ) → first_binding s i ≡ i
  unfolding first_binding
  kept-first zero = refl
  kept-first (suc i) = omega (arith, ap (behind s) (kept-first i), next i)

  kept-elements : elements_bound_in s ≡ count_of s bindings
  kept-elements = elim (dec_lt (elements_bound_in s) (count_of s bindings)) [
    | yes q ↦ absurd (omega (arith, inside-bound s (elements_bound_in s) (omega (arith, kept-first (elements_bound_in s)))))
    | no q ↦ elim (dec_lt (count_of s bindings) (elements_bound_in s)) [
      | yes r ↦ absurd (omega (arith, bound-inside s (count_of s bindings) r, kept-first (count_of s bindings)))
      | no r ↦ omega arith
    ]
  ]

  -- ---- a chart, a binding

  kept-chart : (k : ℕ) (c : Record) → record_of s charts k ≡ Some c → chart_shape s k c ≡ before.chart_shape s k c
  unfolding chart_shape before.chart_shape
  kept-chart k c e = let l = few k c e in rw (le-leb (chart_parameters c).count 14 (omega arith), le-leb (chart_parameters c).count 7 l) refl

  module _ (k : ℕ) (b : Record) (e : record_of s bindings k ≡ Some b) where
    -- a constant of a parameter of its chart
    here : (c : Record) → record_of s charts (bound_chart b) ≡ Some c → (p : ℕ → Bool) (j : ℕ) → j < (chart_parameters c).count → holds (constant_binding s k j) (λ b. p (constant_of b j)) ≡ p (before.constant_of b j)
    here c f p j l = let z = constant_first k j (omega (arith, few (bound_chart b) c f)) in holds-present _ b _ (ap (record_of s bindings) z.0 ∙ e) ∙ ap (λ (i : ℕ). p (field_of b i)) z.1

    shape_of : (c : Record) → record_of s charts (bound_chart b) ≡ Some c → records_shape s k b c ≡ before.constants_shape s b c
    unfolding records_shape constants_shape before.constants_shape
    shape_of c f =
        ap (λ (x : Bool). constants_shape s k c and zero_from (1 + (chart_parameters c).count) b and elim x as (λ x. Bool) [ true ↦ true | false ↦ second_shape s (k + 1) ((chart_parameters c).count - constants_in_record) ]) (le-leb _ _ (few (bound_chart b) c f))
        ∙ ap (λ (x : Bool). constants_shape s k c and x) (and_true_last (zero_from (1 + (chart_parameters c).count) b))
        ∙ ap (λ (x : Bool). x and zero_from (1 + (chart_parameters c).count) b) (all_same (chart_parameters c).count _ _ (here c f (constant_shape s)))

    kept-binding : binding_shape s k ≡ before.binding_shape s b
    unfolding binding_shape before.binding_shape holds
    kept-binding = holds-present _ b (λ r. holds (record_of s charts (bound_chart r)) (records_shape s k r)) e ∙ go (record_of s charts (bound_chart b)) refl
      where
        go : (f : Option Record) → record_of s charts (bound_chart b) ≡ f → holds f (records_shape s k b) ≡ holds f (before.constants_shape s b)
        go (Some c) f = shape_of c f
        go None f = refl

    kept_rule : binding_static s k ≡ before.binding_static s b
    unfolding binding_static before.binding_static constants_static before.constants_static holds
    kept_rule = ap (λ (f : Option Record). holds f (constants_static s k)) (bound-chart s k b e) ∙ go (record_of s charts (bound_chart b)) refl
      where
        go : (f : Option Record) → record_of s charts (bound_chart b) ≡ f → holds f (constants_static s k) ≡ holds f (before.constants_static s b)
        go (Some c) f = all_same (chart_parameters c).count _ _ (λ j l. here c f (λ n. constant_static s n (type_at s ((chart_parameters c).first + j))) j l)
        go None f = refl

    kept-constants : (n : ℕ) → constant_uses s n k ≡ before.constant_uses s n b
    unfolding constant_uses before.constant_uses count_below number_or0
    kept-constants n = ap (λ (f : Option Record). number_or0 f named) (bound-chart s k b e) ∙ go (record_of s charts (bound_chart b)) refl
      where
        named : Record → ℕ
        named c = sum_below (chart_parameters c).count (λ j. one_if (holds (constant_binding s k j) (λ b. eqb (constant_of b j) n)))

        go : (f : Option Record) → record_of s charts (bound_chart b) ≡ f → number_or0 f (λ c. sum_below (chart_parameters c).count (λ j. one_if (holds (constant_binding s k j) (λ b. eqb (constant_of b j) n)))) ≡ number_or0 f (λ c. sum_below (chart_parameters c).count (λ j. one_if (eqb (before.constant_of b j) n)))
        go (Some c) f = sum_same (chart_parameters c).count _ _ (λ j l. ap one_if (here c f (λ m. eqb m n) j l))
        go None f = refl

  -- ---- the section

  -- a test, or a number, for each element is one for each record
  kept-each : (p : ℕ → Bool) (q : Record → Bool) → ((k : ℕ) (b : Record) → record_of s bindings k ≡ Some b → p k ≡ q b) → all_below (elements_bound_in s) (λ i. p (first_binding s i)) ≡ all_below (count_of s bindings) (λ i. holds (record_of s bindings i) q)
  kept-each p q same = ap (λ (n : ℕ). all_below n (λ i. p (first_binding s i))) kept-elements ∙ all_same (count_of s bindings) _ _ (λ i l. let e = record_present s bindings i l in ap p (kept-first i) ∙ same i _ e ∙ sym (holds-present _ _ q e))

  kept_sum : (f : ℕ → ℕ) (g : Record → ℕ) → ((k : ℕ) (b : Record) → record_of s bindings k ≡ Some b → f k ≡ g b) → sum_below (elements_bound_in s) (λ i. f (first_binding s i)) ≡ before.over_bindings s g
  kept_sum f g same = ap (λ (n : ℕ). sum_below n (λ i. f (first_binding s i))) kept-elements ∙ sum_same (count_of s bindings) _ _ (λ i l. let e = record_present s bindings i l in ap f (kept-first i) ∙ same i _ e ∙ sym (number-present _ _ g e))

  kept-bound : elements_bound s ≡ before.elements_bound s
  unfolding elements_bound before.elements_bound
  kept-bound = ap (λ (n : ℕ). eqb (externals_of s + n) (components_of s)) kept-elements

  kept-cells_of : (i : ℕ) → cells_bound s i ≡ before.cells_bound s i
  unfolding cells_bound before.cells_bound chart_bound number_or0
  kept-cells_of i = ap (λ (k : ℕ). number_or0 (chart_bound s k) (λ c. cells_before s c (chart_variables c).count)) (kept-first i) ∙ go (record_of s bindings i)
    where
      go : (f : Option Record) → number_or0 (elim f as (λ f. Option Record) [ Some b ↦ record_of s charts (bound_chart b) | None ↦ None ]) (λ c. cells_before s c (chart_variables c).count) ≡ number_or0 f (λ b. number_or0 (record_of s charts (bound_chart b)) (λ c. cells_before s c (chart_variables c).count))
      go (Some b) = refl
      go None = refl

  kept-cells : cells_of s ≡ before.cells_of s
  unfolding cells_of before.cells_of
  kept-cells = sum_same (elements_of s) _ _ (λ i l. kept-cells_of i)

  -- ---- sections, and the whole

  -- "Section numbers above 7 have no records"
  no_section_lem : (k i : ℕ) (r : Record) → 8 ≤ k → record_of s k i ≡ Some r → ⊥
  no_section_lem k i r l e = omega (arith, present-below s k i r e, count_none s k l)

  -- charts apart, a record's rule stayed
  kept_record : (k i : ℕ) (r : Record) → (k ≡ bindings → ⊥) → record_of s k i ≡ Some r → record_shape s k i r ≡ before.record_shape s k i r
  unfolding record_shape before.record_shape look_up
  kept_record zero i r n e = refl
  kept_record (suc zero) i r n e = refl
  kept_record (suc (suc zero)) i r n e = refl
  kept_record (suc (suc (suc zero))) i r n e = refl
  kept_record (suc (suc (suc (suc zero)))) i r n e = kept-chart i r e
  kept_record (suc (suc (suc (suc (suc zero))))) i r n e = refl
  kept_record (suc (suc (suc (suc (suc (suc zero)))))) i r n e = refl
  kept_record (suc (suc (suc (suc (suc (suc (suc zero))))))) i r n e = absurd (n refl)
  kept_record (suc (suc (suc (suc (suc (suc (suc (suc k)))))))) i r n e = absurd (no_section_lem _ i r (omega arith) e)

  by_records : all_below (count_of s bindings) (λ i. holds (record_of s bindings i) (before.binding_shape s)) ≡ before.section_shape s bindings
  unfolding before.section_shape before.record_shape look_up
  by_records = refl

  by_rules_lem : all_below (count_of s bindings) (λ i. holds (record_of s bindings i) (before.binding_static s)) ≡ before.section_static s bindings
  unfolding before.section_static before.record_static look_up
  by_rules_lem = refl

  kept-section : (k : ℕ) → section_shape s k ≡ before.section_shape s k
  unfolding each_shape before.section_shape bindings_shape
  kept-section k = elim (ℕ_discrete k bindings) [
    | yes q ↦ section-bindings s k q ∙ kept-each (binding_shape s) (before.binding_shape s) kept-binding ∙ by_bindings q
    | no q ↦ section-each s k q ∙ all_same (count_of s k) _ _ (λ i l. let e = record_present s k i l in holds-present _ _ _ e ∙ kept_record k i _ q e ∙ sym (holds-present _ _ _ e))
  ]
    where
      by_bindings : k ≡ bindings → all_below (count_of s bindings) (λ i. holds (record_of s bindings i) (before.binding_shape s)) ≡ before.section_shape s k
      by_bindings q = by_records ∙ sym (ap (before.section_shape s) q)

  kept_record_rule : (k i : ℕ) (r : Record) → (k ≡ bindings → ⊥) → record_of s k i ≡ Some r → record_static s k r ≡ before.record_static s k r
  unfolding record_static before.record_static look_up
  kept_record_rule zero i r n e = refl
  kept_record_rule (suc zero) i r n e = refl
  kept_record_rule (suc (suc zero)) i r n e = refl
  kept_record_rule (suc (suc (suc zero))) i r n e = refl
  kept_record_rule (suc (suc (suc (suc zero)))) i r n e = refl
  kept_record_rule (suc (suc (suc (suc (suc zero))))) i r n e = refl
  kept_record_rule (suc (suc (suc (suc (suc (suc zero)))))) i r n e = refl
  kept_record_rule (suc (suc (suc (suc (suc (suc (suc zero))))))) i r n e = absurd (n refl)
  kept_record_rule (suc (suc (suc (suc (suc (suc (suc (suc k)))))))) i r n e = absurd (no_section_lem _ i r (omega arith) e)

  kept-section-rules : (k : ℕ) → section_static s k ≡ before.section_static s k
  unfolding each_static before.section_static bindings_static
  kept-section-rules k = elim (ℕ_discrete k bindings) [
    | yes q ↦ static-bindings s k q ∙ kept-each (binding_static s) (before.binding_static s) kept_rule ∙ by_bindings q
    | no q ↦ static-each s k q ∙ all_same (count_of s k) _ _ (λ i l. let e = record_present s k i l in holds-present _ _ _ e ∙ kept_record_rule k i _ q e ∙ sym (holds-present _ _ _ e))
  ]
    where
      by_bindings : k ≡ bindings → all_below (count_of s bindings) (λ i. holds (record_of s bindings i) (before.binding_static s)) ≡ before.section_static s k
      by_bindings q = by_rules_lem ∙ sym (ap (before.section_static s) q)

  kept_uses : (n : ℕ) → uses_of s n ≡ before.uses_of s n
  unfolding uses_of before.uses_of
  kept_uses n = omega (arith, kept_sum (constant_uses s n) (before.constant_uses s n) (λ k b e. kept-constants k b e n))

  kept-once : used_once s ≡ before.used_once s
  unfolding used_once before.used_once
  kept-once = all_same _ _ _ (λ n l. ap (λ (x : ℕ). eqb x 1) (kept_uses n))

  kept_sections : sections_shape s ≡ before.sections_shape s
  unfolding sections_shape before.sections_shape
  kept_sections = all_same 8 _ _ (λ k l. kept-section k)

  kept-otherwise : (b : Bool) → shape_with b s ≡ before.shape_with b s
  unfolding shape_with before.shape_with
  kept-otherwise b = rw (kept_sections, kept-bound, kept-cells) refl

  kept_whole : shape s ≡ before.shape s
  unfolding shape before.shape
  kept_whole = kept-otherwise (used_once s) ∙ ap (λ (b : Bool). before.shape_with b s) kept-once

  kept-ruled : static s ≡ before.static s
  unfolding static before.static
  kept-ruled = all_same 8 _ _ (λ k l. kept-section-rules k)

  kept-check : check_of s ≡ before.check_of s
  unfolding check_of before.check_of
  kept-check = ap (λ (a : Bool). elim a as (λ a. Checked) [ true ↦ elim (static s) as (λ b. Checked) [ true ↦ Passed | false ↦ Static ] | false ↦ Shape ]) kept_whole ∙ ap (λ (b : Bool). elim (before.shape s) as (λ a. Checked) [ true ↦ elim b as (λ b. Checked) [ true ↦ Passed | false ↦ Static ] | false ↦ Shape ]) kept-ruled

  pub sheet-kept : SheetKept s
  sheet-kept = record {
    first = kept-first;
    elements = kept-elements;
    chart = kept-chart;
    binding = kept-binding;
    binding_rule = kept_rule;
    constants = λ n k b e. kept-constants k b e n;
    bound = kept-bound;
    cells_of_one = kept-cells_of;
    cells = kept-cells;
    section = kept-section;
    rules = kept-section-rules;
    uses = kept_uses;
    once = kept-once;
    otherwise = kept-otherwise;
    whole = kept_whole;
    ruled = kept-ruled;
    check = kept-check;
  }
