-- What is known of the elements, charts and bodies of a passed sheet.
use Rattle.std.specs.Prelude.{Option, Some, None}
use Prim.Native.Nat.{ℕ, zero, suc, ◌+◌, ◌-◌, ◌<◌, ◌≤◌}
use mathlib.Core.Path.{◌≡◌, refl, sym, ap, ◌∙◌}
use mathlib.Core.List.{List}
use mathlib.Core.Bool.{Bool, true, false, not}
use native.Mathlib.Omega.{arith}
use lib.Dec.{eqb}
use borrow.Author.Tests.{ltb-true, leb-true, eqb-true, lt-ltb, le-leb}
use Rattle.sheet.specs.declared.Record.{Record}
use Rattle.sheet.specs.All.{◌and◌, all_below}
use Rattle.sheet.specs.Names.{charts, bodies, bindings, chart_bodies, role, initial, panic, root, bound_chart}
use Rattle.sheet.specs.Sheet.{record_of}
use Rattle.sheet.proofs.All.{true_false, not_so, and-true, and_first, and_second, all-at}
use Rattle.sheet_rules.specs.declared.Checked.TheVariants.{Passed}
use Rattle.sheet_rules.specs.Fields.{holds, one_if, sum_below, count_below, externals_of, components_of, elements_of}
use Rattle.sheet_rules.specs.Bindings.{chart_bound}
use Rattle.sheet_rules.specs.Shape.{tree_shape, trees_shape, constants_shape, records_shape, binding_shape}
use Rattle.sheet_rules.specs.Types.{reacts_to, has_reaction}
use Rattle.sheet_rules.specs.Static.{body_of, has_role, bodies_with, body_static, bodies_static, chart_static, no_twin, constants_static, binding_static}
use Rattle.machine.specs.Values.{is_bound, binding_at, binding_of, chart_of}
use Rattle.machine.specs.Play.{body_from, body_where, is_initial, has_panic}
use Rattle.sheet_rules.specs.Check.{check_of}
use Rattle.sheet_rules.proofs.Fields.{holds-present}
use Rattle.sheet_rules.proofs.Bindings.{first_most}
use Rattle.machine_passed.specs.Places.{InChart, Element}
use Rattle.machine_passed.proofs.Records.{held, one_record, elements-rest, components_limit, binding-shape, binding-static, chart-static, trees_shape_lem}

-- ---- elements

no_record : {r : Record} {X : Type 0} → None ≡ Some r → X
no_record e = absurd (true_false {b = false} (ap there e) refl)
  where
    there : Option Record → Bool
    there (Some q) = true
    there None = false

module _ (s : List ℕ) (e : ℕ) where
  pub element-binding : (b c : Record) → Element s e b c → binding_of s e ≡ Some b
  unfolding binding_of
  element-binding b c x = rw (binding_of, x.bound) x.binding

  pub element-chart : (b c : Record) → Element s e b c → chart_of s e ≡ Some c
  unfolding chart_of
  element-chart b c x = rw (chart_of, element-binding b c x) x.chart

  binding-element : (b : Record) → binding_of s e ≡ Some b → (is_bound s e ≡ true) × (record_of s bindings (binding_at s e) ≡ Some b)
  unfolding binding_of
  binding-element b h = go (is_bound s e) refl h
    where
      go : (t : Bool) → is_bound s e ≡ t → ◌≡◌ {A = Option Record} (elim t [ true ↦ record_of s bindings (binding_at s e) | false ↦ None ]) (Some b) → (is_bound s e ≡ true) × (record_of s bindings (binding_at s e) ≡ Some b)
      go true q h = (q, h)
      go false q h = no_record h

  pub chart-element : (c : Record) → chart_of s e ≡ Some c → (b : Record) × Element s e b c
  unfolding chart_of
  chart-element c h = go (binding_of s e) refl h
    where
      go : (f : Option Record) → binding_of s e ≡ f → ◌≡◌ {A = Option Record} (elim f [ Some b ↦ record_of s charts (bound_chart b) | None ↦ None ]) (Some c) → (b : Record) × Element s e b c
      go (Some b) q h = let p = binding-element b q in (b, record { bound = p.0; binding = p.1; chart = h })
      go None q h = no_record h

  -- the chart of a bound element is the one that its first record names
  pub chart_of_lem : is_bound s e ≡ true → chart_bound s (binding_at s e) ≡ chart_of s e
  unfolding chart_bound chart_of binding_of
  chart_of_lem h = rw (chart_of, binding_of, h) refl

-- the elements are the components from the first bound one on
pub number_bound : (s : List ℕ) (i : ℕ) → i < elements_of s → is_bound s (externals_of s + i) ≡ true
unfolding elements_of is_bound
number_bound s i l = and-true _ _ (le-leb (externals_of s) (externals_of s + i) (omega arith)) (lt-ltb (externals_of s + i) (components_of s) (omega arith))

-- ---- the body that is looked for

module _ (s : List ℕ) (p : Record → Bool) where
  abbrev Here : ℕ → ℕ → Record → Type 0
  Here n i b = (j : ℕ) × (j < n) × (record_of s bodies (i + j) ≡ Some b) × (p b ≡ true)

  from_found : (n i : ℕ) (b : Record) → body_from s p n i ≡ Some b → Here n i b
  unfolding body_from
  from_found zero i b e = no_record e
  from_found (suc n) i b e = go (from_found n (suc i) b) (holds (record_of s bodies i) p) refl e
    where
      go : (body_from s p n (suc i) ≡ Some b → Here n (suc i) b) → (t : Bool) → holds (record_of s bodies i) p ≡ t → ◌≡◌ {A = Option Record} (elim t [ true ↦ record_of s bodies i | false ↦ body_from s p n (suc i) ]) (Some b) → Here (suc n) i b
      go later true q h = let z : i + 0 ≡ i = omega arith in (0, omega arith, rw z h, sym (holds-present (record_of s bodies i) b p h) ∙ q)
      go later false q h = let d = later h in let z : i + suc d.0 ≡ suc i + d.0 = omega arith in (suc d.0, (let l = d.1 in omega arith), rw z d.2, d.3)

  from_some : (n i j : ℕ) → j < n → holds (record_of s bodies (i + j)) p ≡ true → (b : Record) × (body_from s p n i ≡ Some b)
  unfolding body_from
  from_some zero i j l h = absurd (omega arith)
  from_some (suc n) i j l h = go (from_some n (suc i)) (holds (record_of s bodies i) p) refl
    where
      Later : Type 0
      Later = (m : ℕ) → m < n → holds (record_of s bodies (suc i + m)) p ≡ true → (b : Record) × (body_from s p n (suc i) ≡ Some b)

      next : Later → (m : ℕ) → j ≡ m → holds (record_of s bodies i) p ≡ false → (b : Record) × (body_from s p n (suc i) ≡ Some b)
      next later zero q f = absurd (true_false h (let z : i + j ≡ i = omega arith in rw z f))
      next later (suc m) q f = later m (omega arith) (let z : suc i + m ≡ i + j = omega arith in rw z h)

      go : Later → (t : Bool) → holds (record_of s bodies i) p ≡ t → (b : Record) × (◌≡◌ {A = Option Record} (elim t [ true ↦ record_of s bodies i | false ↦ body_from s p n (suc i) ]) (Some b))
      go later true q = let r = held (record_of s bodies i) p q in (r.0, r.1)
      go later false q = next later j refl q

  pub where_found : (c b : Record) → body_where s c p ≡ Some b → InChart s c b × (p b ≡ true)
  unfolding body_where
  where_found c b e = let d = from_found (chart_bodies c).count (chart_bodies c).first b e in (record { number = d.0; below = d.1; there = d.2 }, d.3)

  pub where_some : (c : Record) (j : ℕ) → j < (chart_bodies c).count → holds (body_of s c j) p ≡ true → (b : Record) × (body_where s c p ≡ Some b)
  unfolding body_where
  where_some c j l h = from_some (chart_bodies c).count (chart_bodies c).first j l h

-- a number below n that meets a test
abbrev pub One : ℕ → (ℕ → Bool) → Type 0
One n p = (i : ℕ) × (i < n) × (p i ≡ true)

-- the last number meets a test, or a lower one does
last_or_lower : (n : ℕ) (p : ℕ → Bool) → (p n ≡ false → One n p) → (t : Bool) → p n ≡ t → One (suc n) p
last_or_lower n p lower true q = (n, omega arith, q)
last_or_lower n p lower false q = let r = lower q in (r.0, (let l = r.1 in omega arith), r.2)

-- of numbers that don't all fail a test, one meets it
some_meets : (n : ℕ) (p : ℕ → Bool) → all_below n (λ i. not (p i)) ≡ false → One n p
unfolding all_below
some_meets zero p e = absurd (true_false refl e)
some_meets (suc n) p e = last_or_lower n p (λ q. some_meets n p (not_so _ (λ h. true_false (and-true _ _ h (ap not q)) e))) (p n) refl

-- of numbers that are counted, one meets the test
counted : (n : ℕ) (p : ℕ → Bool) (k : ℕ) → count_below n p ≡ suc k → One n p
unfolding count_below sum_below
counted zero p k e = absurd (omega arith)
counted (suc n) p k e = last_or_lower n p (λ q. counted n p k (let z : one_if (p n) ≡ 0 = ap one_if q in omega arith)) (p n) refl

-- a chart with a reaction to an internal name has a body that reacts to it
pub some_reacts : (s : List ℕ) (c : Record) (n : ℕ) → has_reaction s c n ≡ true → One (chart_bodies c).count (λ j. holds (body_of s c j) (reacts_to n))
unfolding has_reaction
some_reacts s c n e = some_meets (chart_bodies c).count (λ j. holds (body_of s c j) (reacts_to n)) (flip _ e)
  where
    flip : (b : Bool) → not b ≡ true → b ≡ false
    flip true h = absurd (true_false h refl)
    flip false h = refl

pub reaction_there : (s : List ℕ) (c : Record) (n : ℕ) → has_reaction s c n ≡ true → (b : Record) × (body_where s c (reacts_to n) ≡ Some b)
reaction_there s c n e = let m = some_reacts s c n e in where_some s (reacts_to n) c m.0 m.1 m.2

-- ---- a passed sheet

module _ (s : List ℕ) (ok : check_of s ≡ Passed) where
  -- the number of an element among those bound
  bound-number : (e : ℕ) → is_bound s e ≡ true → e - externals_of s < elements_of s
  unfolding is_bound elements_of
  bound-number e h =
      let low : externals_of s ≤ e = leb-true _ _ (and_first _ _ h) in
      let high : e < components_of s = ltb-true _ _ (and_second _ _ h) in
      omega arith

  pub bound-element : (e : ℕ) → is_bound s e ≡ true → (b : Record) × (c : Record) × Element s e b c
  unfolding binding_shape binding_at
  bound-element e h =
      let p = held _ _ (binding-shape s ok (e - externals_of s) (bound-number e h)) in
      let q = held _ _ p.2 in
      (p.0, q.0, record { bound = h; binding = p.1; chart = q.1 })

  module _ (e : ℕ) (b c : Record) (x : Element s e b c) where
    -- an element's constants
    pub element-constants : constants_shape s (binding_at s e) c ≡ true
    unfolding binding_shape records_shape binding_at
    element-constants = and_first _ _ (sym (holds-present _ c _ x.chart) ∙ sym (holds-present _ b _ x.binding) ∙ binding-shape s ok (e - externals_of s) (bound-number e x.bound))

    pub element_types : constants_static s (binding_at s e) c ≡ true
    unfolding binding_static binding_at
    element_types = sym (holds-present _ c _ (chart_of_lem s e x.bound ∙ element-chart s e b c x)) ∙ binding-static s ok (e - externals_of s) (bound-number e x.bound)

    -- the numbers of binding records are small
    pub element_low : binding_at s e ≤ 128
    unfolding binding_at
    element_low = omega (arith, (first_most s (e - externals_of s)).1, bound-number e x.bound, elements-rest s ok, components_limit s ok)

  module _ (k : ℕ) (c : Record) (chart : record_of s charts k ≡ Some c) where
    bodies-static : bodies_static s c ≡ true
    unfolding chart_static
    bodies-static = and_second _ _ (and_second _ _ (and_second _ _ (chart-static s ok k c chart)))

    pub body-there : (j : ℕ) → j < (chart_bodies c).count → (b : Record) × (body_of s c j ≡ Some b) × (no_twin s c j b and body_static s c b ≡ true)
    unfolding bodies_static
    body-there j l = held _ _ (all-at (chart_bodies c).count _ bodies-static j l)

    pub body-static : (b : Record) → InChart s c b → body_static s c b ≡ true
    body-static b x = let d = body-there x.number x.below in let q = one_record d.0 b (sym d.1 ∙ x.there) in rw q at (and_second _ _ d.2)

    pub body-tree : (b : Record) → InChart s c b → tree_shape s c b 64 (root b) ≡ true
    unfolding trees_shape
    body-tree b x = sym (holds-present _ b _ x.there) ∙ all-at (chart_bodies c).count _ (trees_shape_lem s ok k c chart) x.number x.below

    one-body : (k : ℕ) → bodies_with s c k ≡ 1 → (b : Record) × (body_where s c (λ b. eqb (role b) k) ≡ Some b)
    unfolding bodies_with has_role
    one-body k e = let m = counted (chart_bodies c).count (λ j. has_role s ((chart_bodies c).first + j) k) 0 e in where_some s (λ b. eqb (role b) k) c m.0 m.1 m.2

    -- "every chart has one initial and one panic body"
    pub initial-there : (b : Record) × (body_where s c is_initial ≡ Some b)
    unfolding chart_static
    initial-there = one-body initial (eqb-true _ _ (and_first _ _ (and_second _ _ (chart-static s ok k c chart))))

    pub panic-there : (b : Record) × (body_where s c has_panic ≡ Some b)
    unfolding chart_static
    panic-there = one-body panic (eqb-true _ _ (and_first _ _ (and_second _ _ (and_second _ _ (chart-static s ok k c chart)))))
