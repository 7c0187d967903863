-- "The binding section has as many records as its charts need."
use Prim.Native.Nat.{ℕ, zero, suc, ◌+◌, ◌-◌, ◌≤◌, ◌<◌}
use mathlib.Core.Path.{◌≡◌, sym, ap, ◌∙◌}
use mathlib.Core.List.{List}
use mathlib.Core.Bool.{Bool, true, false}
use native.Mathlib.Omega.{arith}
use native.Mathlib.Decide.{dec_lt}
use borrow.Author.Tests.{lt-leb}
use Rattle.sheet.specs.declared.Record.{Record}
use Rattle.sheet.specs.Names.{charts, bindings, chart_parameters, bound_chart}
use Rattle.sheet.specs.Sheet.{count_of, record_of}
use Rattle.sheet.proofs.All.{and_second}
use Rattle.sheet.proofs.Sheet.{present-below}
use Rattle.sheet_rules.specs.Fields.{elements_of}
use Rattle.sheet_rules.specs.Bindings.{constants_in_record, behind, first_binding, elements_bound_in}
use Rattle.sheet_rules.specs.Shape.{second_shape, records_shape, binding_shape}
use Rattle.sheet_rules.specs.Check.{shape}
use Rattle.sheet_rules.proofs.Fields.{held}
use Rattle.sheet_rules.proofs.Bindings.{one_record, two_records, bound-chart, behind-chart, inside-bound}
use Rattle.sheet_rules.proofs.Shape.{binding_shaped, shape_sections, shape-elements}

module _ (s : List ℕ) where
  -- a second record that is needed is there
  second_there : (k : ℕ) (b c : Record) → records_shape s k b c ≡ true → constants_in_record < (chart_parameters c).count → k + 1 < count_of s bindings
  unfolding records_shape second_shape
  second_there k b c e many =
      let more = (chart_parameters c).count - constants_in_record in
      let last = and_second _ _ (and_second _ _ e) in
      let second : second_shape s (k + 1) more ≡ true = sym (ap (λ (x : Bool). elim x as (λ x. Bool) [ true ↦ true | false ↦ second_shape s (k + 1) more ]) (lt-leb _ _ many)) ∙ last in
      let r = held (record_of s bindings (k + 1)) _ second in
      present-below s bindings (k + 1) r.0 r.1

  -- the records of an element, in shape, all stand in the section
  behind-inside : (k : ℕ) → binding_shape s k ≡ true → behind s k ≤ count_of s bindings
  unfolding binding_shape
  behind-inside k e =
      let b = held (record_of s bindings k) _ e in
      let c = held (record_of s charts (bound_chart b.0)) _ b.2 in
      let n = (chart_parameters c.0).count in
      let next = behind-chart s k c.0 (bound-chart s k b.0 b.1 ∙ c.1) in
      elim (dec_lt constants_in_record n) [
        | yes q ↦ omega (arith, next, two_records n q, second_there k b.0 c.0 c.2 q)
        | no q ↦ omega (arith, next, one_record n (omega arith), present-below s bindings k b.0 b.1)
      ]

  -- the record behind those of the last element is the section's end
  pub as_many_records : shape s ≡ true → first_binding s (elements_of s) ≡ count_of s bindings
  unfolding first_binding
  as_many_records h = ap (first_binding s) (shape-elements s h) ∙ go (elements_bound_in s) (λ i l. behind-inside (first_binding s i) (binding_shaped s (shape_sections s h) i l)) (inside-bound s (elements_bound_in s))
    where
      go : (n : ℕ) → ((i : ℕ) → i < n → behind s (first_binding s i) ≤ count_of s bindings) → (first_binding s n < count_of s bindings → n < n) → first_binding s n ≡ count_of s bindings
      go zero inside whole = elim (dec_lt 0 (count_of s bindings)) [
        | yes q ↦ absurd (omega (arith, whole q))
        | no q ↦ omega arith
      ]
      go (suc n) inside whole = elim (dec_lt (first_binding s (suc n)) (count_of s bindings)) [
        | yes q ↦ absurd (omega (arith, whole q))
        | no q ↦ omega (arith, inside n (omega arith))
      ]
