-- The records of a sheet whose sections have their shape and keep the static rules.
use Rattle.std.specs.Prelude.{Some}
use Prim.Native.Nat.{ℕ, ◌+◌, ◌<◌}
use mathlib.Core.Path.{◌≡◌, refl, sym, ap, ◌∙◌}
use mathlib.Core.List.{List}
use mathlib.Core.Bool.{Bool, true, false}
use native.Mathlib.Omega.{arith}
use borrow.Author.Tests.{eq-eqb, ne_eqb, eqb-true}
use Rattle.sheet.specs.declared.Record.{Record}
use Rattle.sheet.specs.Names.{bindings}
use Rattle.sheet.specs.Sheet.{count_of, record_of}
use Rattle.sheet.proofs.All.{and_first, and_second, all-at}
use Rattle.sheet.proofs.Sheet.{present-below}
use Rattle.sheet_rules.specs.Fields.{components_of, externals_of, elements_of}
use Rattle.sheet_rules.specs.Bindings.{first_binding, elements_bound_in}
use Rattle.sheet_rules.specs.Shape.{binding_shape, bindings_shape, elements_bound, record_shape, each_shape, section_shape}
use Rattle.sheet_rules.specs.Static.{binding_static, bindings_static, record_static, each_static, section_static, static}
use Rattle.sheet_rules.specs.Check.{sections_shape, shape_with, shape}
use Rattle.sheet_rules.proofs.Fields.{holds-present}

-- ---- a section record by record, section 7 element by element

module _ (s : List ℕ) (k : ℕ) where
  pub section-each : (k ≡ bindings → ⊥) → section_shape s k ≡ each_shape s k
  unfolding section_shape
  section-each h = ap (λ (b : Bool). elim b [ true ↦ bindings_shape s | false ↦ each_shape s k ]) (ne_eqb k bindings h)

  pub section-bindings : k ≡ bindings → section_shape s k ≡ bindings_shape s
  unfolding section_shape
  section-bindings h = ap (λ (b : Bool). elim b [ true ↦ bindings_shape s | false ↦ each_shape s k ]) (eq-eqb k bindings h)

  pub static-each : (k ≡ bindings → ⊥) → section_static s k ≡ each_static s k
  unfolding section_static
  static-each h = ap (λ (b : Bool). elim b [ true ↦ bindings_static s | false ↦ each_static s k ]) (ne_eqb k bindings h)

  pub static-bindings : k ≡ bindings → section_static s k ≡ bindings_static s
  unfolding section_static
  static-bindings h = ap (λ (b : Bool). elim b [ true ↦ bindings_static s | false ↦ each_static s k ]) (eq-eqb k bindings h)

-- ---- a record, or an element's records, of a sheet whose sections have their shape

module _ (s : List ℕ) (h : sections_shape s ≡ true) where
  pub record_shaped : (k n : ℕ) (r : Record) → k < bindings → record_of s k n ≡ Some r → record_shape s k n r ≡ true
  unfolding sections_shape each_shape
  record_shaped k n r below e = sym (holds-present (record_of s k n) r (record_shape s k n) e) ∙ all-at (count_of s k) _ (sym (section-each s k (λ q. omega arith)) ∙ all-at 8 (section_shape s) h k (omega arith)) n (present-below s k n r e)

  pub binding_shaped : (i : ℕ) → i < elements_bound_in s → binding_shape s (first_binding s i) ≡ true
  unfolding sections_shape bindings_shape
  binding_shaped = all-at (elements_bound_in s) _ (sym (section-bindings s bindings refl) ∙ all-at 8 (section_shape s) h bindings (omega arith))

-- the same of the static rules
module _ (s : List ℕ) (h : static s ≡ true) where
  pub record_ruled : (k n : ℕ) (r : Record) → k < bindings → record_of s k n ≡ Some r → record_static s k r ≡ true
  unfolding static each_static
  record_ruled k n r below e = sym (holds-present (record_of s k n) r (record_static s k) e) ∙ all-at (count_of s k) _ (sym (static-each s k (λ q. omega arith)) ∙ all-at 8 (section_static s) h k (omega arith)) n (present-below s k n r e)

  pub binding-ruled : (i : ℕ) → i < elements_bound_in s → binding_static s (first_binding s i) ≡ true
  unfolding static bindings_static
  binding-ruled = all-at (elements_bound_in s) _ (sym (static-bindings s bindings refl) ∙ all-at 8 (section_static s) h bindings (omega arith))

-- ---- the parts of a shape that speak of sections and of elements

module _ (s : List ℕ) (h : shape s ≡ true) where
  pub shape_sections : sections_shape s ≡ true
  unfolding shape shape_with
  shape_sections = and_first _ _ (and_second _ _ (and_second _ _ h))

  pub shape-components : externals_of s + elements_bound_in s ≡ components_of s
  unfolding shape shape_with elements_bound
  shape-components = eqb-true _ _ (and_first _ _ (and_second _ _ (and_second _ _ (and_second _ _ (and_second _ _ h)))))

  pub shape-elements : elements_of s ≡ elements_bound_in s
  unfolding elements_of
  shape-elements = omega (arith, shape-components)
