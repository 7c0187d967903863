-- What a passed sheet numbers is there: its declarations, each with a default; its elements with all that they need.
use Rattle.std.specs.Prelude.{Some}
use Prim.Native.Nat.{ℕ, zero, suc, ◌+◌, ◌*◌, ◌-◌, ◌<◌, ◌≤◌}
use mathlib.Core.Path.{◌≡◌, refl, sym, ap, ◌∙◌}
use mathlib.Core.List.{List}
use mathlib.Core.Bool.{Bool, true, false}
use native.Mathlib.Omega.{arith}
use lib.Dec.{ltb, leb, eqb}
use borrow.Author.Tests.{ltb-true, ltb-false, leb-true, lt-ltb, le-leb}
use Rattle.sheet.specs.declared.Record.{Record}
use Rattle.sheet.specs.declared.Range.{Range}
use Rattle.sheet.specs.All.{◌and◌, all_below}
use Rattle.sheet.specs.Table.{look_up}
use Rattle.sheet.specs.Names.{enumerated_types, declarations, names, charts, bodies, size, default_member, declared_type, data_of, chart_parameters, chart_variables, chart_bodies, body_parameters, body_locals, bound_chart, chart_parameter, chart_variable, body_variable, is_clock}
use Rattle.sheet.specs.Sheet.{count_of, record_of, record_at, offset_of}
use Rattle.sheet.proofs.All.{true_false, and_first, and_second, and-true}
use Rattle.sheet.proofs.Sheet.{record_present}
use Rattle.sheet_rules.specs.declared.Checked.TheVariants.{Passed}
use Rattle.sheet_rules.specs.Fields.{number_or0, components_of, externals_of, ports_of, elements_of, declared_so, type_at, in_section, members_of}
use Rattle.sheet_rules.specs.DataTypes.{data_type_of}
use Rattle.sheet_rules.proofs.DataTypes.{type_enumerated}
use Rattle.sheet_rules.specs.Shape.{enumerated_shape, type_exists, name_shape, chart_shape, body_shape, variables_at}
use Rattle.sheet_rules.specs.Types.{variable_at}
use Rattle.machine.specs.Values.{is_below, fits32, in_data_type, in_type, default_in, default_of, has_default, is_bound, chart_of}
use Rattle.machine.specs.Run.{locals_there}
use Rattle.machine.specs.Play.{has_head, element_there, elements_there, bodies_there, is_initial}
use Rattle.sheet_rules.specs.Check.{check_of}
use Rattle.sheet_rules.proofs.Fields.{holds-present, number-present}
use Rattle.machine_passed.specs.Places.{InChart}
use Rattle.machine_passed.proofs.Records.{held, present-below, type_shape, name-shape, chart-shape, body-shape, head-there, two_externals, externals-components, two_ports, declared-exists}
use Rattle.machine_passed.proofs.Charts.{element-chart, chart-element, number_bound, bound-element, where_found, body-there, initial-there}

pub all_true : (n : ℕ) (p : ℕ → Bool) → ((i : ℕ) → i < n → p i ≡ true) → all_below n p ≡ true
unfolding all_below
all_true zero p h = refl
all_true (suc n) p h = and-true (all_below n p) (p n) (all_true n p (λ i l. h i (omega arith))) (h n (omega arith))

-- ---- any sheet

module _ (s : List ℕ) where
  -- a number of a range
  pub in_section_lem : (k : ℕ) (g : Range) → in_section s k g ≡ true → (j : ℕ) → j < g.count → g.first + j < count_of s k
  unfolding in_section
  in_section_lem k g h j l = let m : g.first + g.count ≤ count_of s k = leb-true _ _ h in omega arith

  pub declared_record : (d : ℕ) → d < count_of s declarations → (r : Record) × (record_of s declarations d ≡ Some r) × (declared_type r ≡ type_at s d)
  unfolding type_at
  declared_record d l = let p = record_present s declarations d l in (_, p, sym (number-present _ _ declared_type p))

  pub declared_so_lem : (d : ℕ) (p : ℕ → Bool) → d < count_of s declarations → declared_so s d p ≡ p (type_at s d)
  unfolding declared_so
  declared_so_lem d p l = let r = declared_record d l in holds-present _ r.0 _ r.1 ∙ ap p r.2

  -- a test of a declaration's type that holds
  pub declared-below : (d : ℕ) (p : ℕ → Bool) → declared_so s d p ≡ true → d < count_of s declarations
  unfolding declared_so
  declared-below d p h = let r = held _ _ h in present-below s declarations d r.0 r.1

  pub declared_true : (d : ℕ) (p : ℕ → Bool) → declared_so s d p ≡ true → p (type_at s d) ≡ true
  declared_true d p h = sym (declared_so_lem d p (declared-below d p h)) ∙ h

-- ---- defaults

module _ (s : List ℕ) where
  -- a type that is no clock and none of the first four is enumerated
  is_enumerated : (t : ℕ) → 4 ≤ t → is_clock t ≡ false → type_exists s t ≡ true → (8 ≤ t) × (t - 8 < count_of s enumerated_types)
  unfolding is_clock type_exists
  is_enumerated t l n h = go (leb t 6) refl
    where
      go : (b : Bool) → leb t 6 ≡ b → (8 ≤ t) × (t - 8 < count_of s enumerated_types)
      go true e = absurd (true_false (and-true (leb 4 t) (leb t 6) (le-leb 4 t l) e) n)
      go false e = let k : leb 8 t and ltb (t - 8) (count_of s enumerated_types) ≡ true = (rw (type_exists, e) at h) in (leb-true _ _ (and_first _ _ k), ltb-true _ _ (and_second _ _ k))

module _ (s : List ℕ) (ok : check_of s ≡ Passed) where
  member_below : (k : ℕ) → k < count_of s enumerated_types → number_or0 (record_of s enumerated_types k) default_member < members_of s k
  unfolding members_of enumerated_shape
  member_below k l =
      let p = record_present s enumerated_types k l in
      let r : Record = record_at s (offset_of s enumerated_types + 16 * k) in
      let small : default_member r < size r = ltb-true _ _ (and_first _ _ (and_second _ _ (and_second _ _ (type_shape s ok k r p)))) in
      omega (arith, number-present (record_of s enumerated_types k) r default_member p, number-present (record_of s enumerated_types k) r size p)

  default_member_lem : (t : ℕ) → 8 ≤ t → t - 8 < count_of s enumerated_types → in_type s t (default_of s t) ≡ true
  unfolding in_type in_data_type default_of default_in is_below
  default_member_lem t l m = ap (λ d. in_data_type s d (default_in s d)) (type_enumerated t l) ∙ lt-ltb _ _ (member_below (t - 8) m)

  -- "Defaults: false, 0, Log, log, the declared member": each is a value of its type
  pub default_in_lem : (t : ℕ) → is_clock t ≡ false → type_exists s t ≡ true → in_type s t (default_of s t) ≡ true
  unfolding in_type in_data_type default_of default_in data_type_of look_up is_below fits32
  default_in_lem zero n h = refl
  default_in_lem (suc zero) n h = refl
  default_in_lem (suc (suc zero)) n h = lt-ltb 0 (components_of s) (omega (arith, two_externals s ok, externals-components s ok))
  default_in_lem (suc (suc (suc zero))) n h = lt-ltb 0 (ports_of s) (omega (arith, two_ports s ok))
  default_in_lem (suc (suc (suc (suc t)))) n h = let k = is_enumerated s (suc (suc (suc (suc t)))) (omega arith) n h in default_member_lem (suc (suc (suc (suc t)))) k.0 k.1

  pub has_default_lem : (d : ℕ) → d < count_of s declarations → has_default s d ≡ true
  unfolding has_default
  has_default_lem d l = declared_so_lem s d _ l ∙ go (is_clock (type_at s d)) refl
    where
      go : (b : Bool) → is_clock (type_at s d) ≡ b → ◌≡◌ {A = Bool} (elim b [ true ↦ true | false ↦ in_type s (type_at s d) (default_of s (type_at s d)) ]) true
      go true q = refl
      go false q = default_in_lem (type_at s d) q (declared-exists s ok d)

  -- ---- the declarations that records number

  pub name-declared : (n : ℕ) (r : Record) → record_of s names n ≡ Some r → (j : ℕ) → j < (data_of r).count → (data_of r).first + j < count_of s declarations
  unfolding name_shape
  name-declared n r e = in_section_lem s declarations (data_of r) (and_first _ _ (name-shape s ok n r e))

  module _ (k : ℕ) (c : Record) (chart : record_of s charts k ≡ Some c) where
    pub chart_parameter_declared : (j : ℕ) → j < (chart_parameters c).count → (chart_parameters c).first + j < count_of s declarations
    unfolding chart_shape
    chart_parameter_declared = in_section_lem s declarations (chart_parameters c) (and_first _ _ (chart-shape s ok k c chart))

    pub chart-variable-declared : (j : ℕ) → j < (chart_variables c).count → (chart_variables c).first + j < count_of s declarations
    unfolding chart_shape
    chart-variable-declared = in_section_lem s declarations (chart_variables c) (and_first _ _ (and_second _ _ (and_second _ _ (chart-shape s ok k c chart))))

    module _ (b : Record) (x : InChart s c b) where
      pub parameter_declared : (j : ℕ) → j < (body_parameters b).count → (body_parameters b).first + j < count_of s declarations
      unfolding body_shape
      parameter_declared = in_section_lem s declarations (body_parameters b) (and_first _ _ (and_second _ _ (and_second _ _ (body-shape s ok _ b x.there))))

      pub local_declared : (j : ℕ) → j < (body_locals b).count → (body_locals b).first + j < count_of s declarations
      unfolding body_shape
      local_declared = in_section_lem s declarations (body_locals b) (and_first _ _ (and_second _ _ (and_second _ _ (and_second _ _ (and_second _ _ (body-shape s ok _ b x.there))))))

      pub locals-there : locals_there s b ≡ true
      unfolding locals_there
      locals-there = all_true (body_locals b).count _ (λ j l. has_default_lem _ (local_declared j l))

      -- a variable that a node may name
      pub variable-declared : (place n : ℕ) → n < variables_at c b place → variable_at c b place n < count_of s declarations
      unfolding variables_at variable_at
      variable-declared place n = go (eqb place chart_parameter) (eqb place chart_variable) (eqb place body_variable) (ltb n (body_parameters b).count) refl
        where
          go : (u v w t : Bool) → ltb n (body_parameters b).count ≡ t →
              n < elim u as (λ u. ℕ) [ true ↦ (chart_parameters c).count | false ↦ elim v [ true ↦ (chart_variables c).count | false ↦ elim w [ true ↦ (body_parameters b).count + (body_locals b).count | false ↦ 0 ] ] ] →
              elim u as (λ u. ℕ) [ true ↦ (chart_parameters c).first + n | false ↦ elim v [ true ↦ (chart_variables c).first + n | false ↦ elim t [ true ↦ (body_parameters b).first + n | false ↦ (body_locals b).first + (n - (body_parameters b).count) ] ] ] < count_of s declarations
          go true v w t q l = chart_parameter_declared n l
          go false true w t q l = chart-variable-declared n l
          go false false true true q l = parameter_declared n (ltb-true _ _ q)
          go false false true false q l = local_declared (n - (body_parameters b).count) (let m : (body_parameters b).count ≤ n = ltb-false _ _ q in omega arith)
          go false false false t q l = absurd (omega arith)

    -- every chart has a body, and its last is there
    pub bodies_in_section : in_section s bodies (chart_bodies c) ≡ true
    unfolding in_section
    bodies_in_section =
        let i = initial-there s ok k c chart in
        let x = (where_found s is_initial c i.0 i.1).0 in
        let m : x.number < (chart_bodies c).count = x.below in
        let d = body-there s ok k c chart ((chart_bodies c).count - 1) (omega arith) in
        let l = present-below s bodies ((chart_bodies c).first + ((chart_bodies c).count - 1)) d.0 d.1 in
        le-leb ((chart_bodies c).first + (chart_bodies c).count) (count_of s bodies) (omega arith)

  -- ---- elements

  pub has_head_lem : has_head s ≡ true
  unfolding has_head
  has_head_lem = holds-present _ (head-there s ok).0 _ (head-there s ok).1

  pub element-declared : (e : ℕ) (c : Record) → chart_of s e ≡ Some c → (j : ℕ) → j < (chart_variables c).count → (chart_variables c).first + j < count_of s declarations
  element-declared e c p = let x = chart-element s e c p in chart-variable-declared (bound_chart x.0) c x.1.chart

  pub element-there : (e : ℕ) → is_bound s e ≡ true → element_there s e ≡ true
  unfolding element_there
  element-there e h = let x = bound-element s ok e h in let p = element-chart s e x.0 x.1 x.2 in holds-present (chart_of s e) x.1 _ p ∙ all_true _ _ (λ j l. has_default_lem _ (element-declared e x.1 p j l))

  pub elements-there : elements_there s ≡ true
  unfolding elements_there
  elements-there = and-true _ _ has_head_lem (all_true (elements_of s) _ (λ i l. element-there (externals_of s + i) (number_bound s i l)))

  pub bodies-there : (e : ℕ) → is_bound s e ≡ true → bodies_there s e ≡ true
  unfolding bodies_there
  bodies-there e h = let x = bound-element s ok e h in holds-present (chart_of s e) x.1 _ (element-chart s e x.0 x.1 x.2) ∙ bodies_in_section (bound_chart x.0) x.1 x.2.chart
