-- What is known of each record of a passed sheet.
use Rattle.std.specs.Prelude.{Option, Some, None}
use Prim.Native.Nat.{ℕ, ◌+◌, ◌<◌, ◌≤◌}
use mathlib.Core.Path.{◌≡◌, refl, sym, ap, ◌∙◌}
use mathlib.Core.List.{List}
use mathlib.Core.Bool.{Bool, true, false}
use native.Mathlib.Omega.{arith}
use borrow.Author.Tests.{leb-true, eqb-true}
use Rattle.sheet.specs.declared.Record.{Record}
use Rattle.sheet.specs.Table.{look_up}
use Rattle.sheet.specs.Names.{head, enumerated_types, declarations, names, charts, bodies, bindings, declared_type, components, externals, ports}
use Rattle.sheet.specs.Sheet.{directory_right, count_of, record_of}
use Rattle.sheet.proofs.All.{and_first, and_second, all-at}
use Rattle.sheet.proofs.Sheet.{record_present}
pub use Rattle.sheet.proofs.Sheet.{present-below}
use Rattle.sheet_rules.specs.declared.Checked.{Checked}
use Rattle.sheet_rules.specs.declared.Checked.TheVariants.{Passed, Shape, Static}
use Rattle.sheet_rules.specs.Fields.{number_or0, type_at, components_of, externals_of, ports_of, elements_of}
use Rattle.sheet_rules.specs.Bindings.{first_binding, elements_bound_in}
use Rattle.sheet_rules.specs.Shape.{head_shape, enumerated_shape, type_exists, declaration_shape, name_shape, chart_shape, body_shape, binding_shape, cells_of, trees_shape, record_shape}
use Rattle.sheet_rules.specs.Static.{declaration_static, name_static, chart_static, binding_static, record_static, static}
use Rattle.sheet_rules.specs.Check.{nodes_shape, sections_shape, shape_with, shape, check_of, check_number}
use Rattle.sheet_rules.proofs.Shape.{record_shaped, binding_shaped, record_ruled, binding-ruled, shape_sections, shape-components, shape-elements}
use Rattle.sheet_rules.proofs.Fields.{holds-present, number-present}
pub use Rattle.sheet_rules.proofs.Fields.{held}

-- ---- a record that is there

pub one_record : (r r' : Record) → Some r ≡ Some r' → r ≡ r'
one_record r r' e = ap get e
  where
    get : Option Record → Record
    get (Some q) = q
    get None = r

module _ (s : List ℕ) (ok : check_of s ≡ Passed) where
  both : (shape s ≡ true) × (static s ≡ true)
  unfolding check_of
  both = go (shape s) (static s) ok
    where
      go : (a b : Bool) → ◌≡◌ {A = Checked} (elim a [ true ↦ elim b [ true ↦ Passed | false ↦ Static ] | false ↦ Shape ]) Passed → (a ≡ true) × (b ≡ true)
      go true true e = (refl, refl)
      go true false e = absurd (let z : ◌≡◌ {A = ℕ} 2 0 = ap check_number e in omega arith)
      go false b e = absurd (let z : ◌≡◌ {A = ℕ} 1 0 = ap check_number e in omega arith)

  pub shaped : shape s ≡ true
  shaped = both.0

  pub ruled : static s ≡ true
  ruled = both.1

  -- ---- the parts of the shape

  pub directory-right : directory_right s ≡ true
  unfolding shape shape_with
  directory-right = and_first _ _ shaped

  one-head : count_of s head ≡ 1
  unfolding shape shape_with
  one-head = eqb-true _ _ (and_first _ _ (and_second _ _ shaped))

  sections : sections_shape s ≡ true
  sections = shape_sections s shaped

  elements_are : elements_of s ≡ elements_bound_in s
  elements_are = shape-elements s shaped

  -- "The rest are bound elements"
  pub elements-rest : externals_of s + elements_of s ≡ components_of s
  elements-rest = omega (arith, shape-components s shaped, elements_are)

  pub cells_limit : cells_of s ≤ 512
  unfolding shape shape_with
  cells_limit = leb-true _ _ (and_first _ _ (and_second _ _ (and_second _ _ (and_second _ _ (and_second _ _ (and_second _ _ shaped))))))

  trees : nodes_shape s ≡ true
  unfolding shape shape_with
  trees = and_second _ _ (and_second _ _ (and_second _ _ (and_second _ _ (and_second _ _ (and_second _ _ (and_second _ _ shaped))))))

  -- ---- each record

  module _ (k n : ℕ) (r : Record) (below : k < bindings) (e : record_of s k n ≡ Some r) where
    record_shape_lem : record_shape s k n r ≡ true
    record_shape_lem = record_shaped s sections k n r below e

    record_static_lem : record_static s k r ≡ true
    record_static_lem = record_ruled s ruled k n r below e

  module _ (n : ℕ) (r : Record) where
    pub type_shape : record_of s enumerated_types n ≡ Some r → enumerated_shape r ≡ true
    unfolding record_shape look_up
    type_shape e = record_shape_lem 1 n r (omega arith) e

    pub declaration_shape_lem : record_of s declarations n ≡ Some r → declaration_shape s r ≡ true
    unfolding record_shape look_up
    declaration_shape_lem e = record_shape_lem 2 n r (omega arith) e

    pub name-shape : record_of s names n ≡ Some r → name_shape s r ≡ true
    unfolding record_shape look_up
    name-shape e = record_shape_lem 3 n r (omega arith) e

    pub chart-shape : record_of s charts n ≡ Some r → chart_shape s n r ≡ true
    unfolding record_shape look_up
    chart-shape e = record_shape_lem 4 n r (omega arith) e

    pub body-shape : record_of s bodies n ≡ Some r → body_shape s r ≡ true
    unfolding record_shape look_up
    body-shape e = record_shape_lem 5 n r (omega arith) e

    pub trees_shape_lem : record_of s charts n ≡ Some r → trees_shape s r ≡ true
    unfolding nodes_shape
    trees_shape_lem e = sym (holds-present (record_of s charts n) r (trees_shape s) e) ∙ all-at (count_of s charts) _ trees n (present-below s charts n r e)

    pub declaration_static_lem : record_of s declarations n ≡ Some r → declaration_static s r ≡ true
    unfolding record_static look_up
    declaration_static_lem e = record_static_lem 2 n r (omega arith) e

    pub name-static : record_of s names n ≡ Some r → name_static s r ≡ true
    unfolding record_static look_up
    name-static e = record_static_lem 3 n r (omega arith) e

    pub chart-static : record_of s charts n ≡ Some r → chart_static s r ≡ true
    unfolding record_static look_up
    chart-static e = record_static_lem 4 n r (omega arith) e

  -- an element's binding
  pub binding-shape : (i : ℕ) → i < elements_of s → binding_shape s (first_binding s i) ≡ true
  binding-shape i l = binding_shaped s sections i (omega (arith, elements_are))

  pub binding-static : (i : ℕ) → i < elements_of s → binding_static s (first_binding s i) ≡ true
  binding-static i l = binding-ruled s ruled i (omega (arith, elements_are))

  -- ---- the head

  pub head-there : (r : Record) × (record_of s head 0 ≡ Some r) × (head_shape r ≡ true)
  unfolding record_shape look_up
  head-there = let p = record_present s head 0 (omega (arith, one-head)) in (_, p, record_shape_lem 0 0 _ (omega arith) p)

  head_numbers : (r : Record) → record_of s head 0 ≡ Some r → head_shape r ≡ true → (2 ≤ externals_of s) × (externals_of s ≤ components_of s) × (components_of s ≤ 64) × (2 ≤ ports_of s) × (ports_of s ≤ 64)
  unfolding head_shape components_of externals_of ports_of
  head_numbers r e h =
      let c : components_of s ≡ r.f0 = number-present _ r components e in
      let x : externals_of s ≡ r.f1 = number-present _ r externals e in
      let p : ports_of s ≡ r.f2 = number-present _ r ports e in
      let h₁ : r.f0 ≤ 64 = leb-true _ _ (and_first _ _ h) in
      let h₂ : 2 ≤ r.f1 = leb-true _ _ (and_first _ _ (and_second _ _ h)) in
      let h₃ : r.f1 ≤ r.f0 = leb-true _ _ (and_first _ _ (and_second _ _ (and_second _ _ h))) in
      let h₄ : 2 ≤ r.f2 = leb-true _ _ (and_first _ _ (and_second _ _ (and_second _ _ (and_second _ _ h)))) in
      let h₅ : r.f2 ≤ 64 = leb-true _ _ (and_first _ _ (and_second _ _ (and_second _ _ (and_second _ _ (and_second _ _ h))))) in
      (omega arith, omega arith, omega arith, omega arith, omega arith)

  pub two_externals : 2 ≤ externals_of s
  two_externals = (head_numbers head-there.0 head-there.1 head-there.2).0

  pub externals-components : externals_of s ≤ components_of s
  externals-components = (head_numbers head-there.0 head-there.1 head-there.2).1

  pub components_limit : components_of s ≤ 64
  components_limit = (head_numbers head-there.0 head-there.1 head-there.2).2

  pub two_ports : 2 ≤ ports_of s
  two_ports = (head_numbers head-there.0 head-there.1 head-there.2).3

  pub ports_limit : ports_of s ≤ 64
  ports_limit = (head_numbers head-there.0 head-there.1 head-there.2).4

  -- ---- declarations: every type that is declared exists; a declaration that isn't there counts as Bool, which exists too

  pub declared-exists : (d : ℕ) → type_exists s (type_at s d) ≡ true
  unfolding type_at number_or0 declaration_shape type_exists
  declared-exists d = go (record_of s declarations d) refl
    where
      go : (f : Option Record) → record_of s declarations d ≡ f → type_exists s (number_or0 f declared_type) ≡ true
      go (Some r) e = and_first _ _ (declaration_shape_lem d r e)
      go None e = refl
