-- Where the records that bind elements stand, and the constants in them.
use Rattle.std.specs.Prelude.{Option, Some, None}
use Prim.Native.Nat.{ℕ, zero, suc, ◌+◌, ◌*◌, ◌-◌, ◌≤◌, ◌<◌}
use mathlib.Core.Path.{◌≡◌, refl, sym, ap, ◌∙◌}
use mathlib.Core.List.{List}
use mathlib.Core.Bool.{Bool, true, false}
use native.Mathlib.Omega.{arith}
use native.Mathlib.Numerals.{add-one}
use native.Mathlib.Decide.{dec_lt}
use lib.Dec.{ltb, leb}
use borrow.Author.Tests.{lt-ltb, le-ltb, le-leb, lt-leb}
use Rattle.sheet.specs.declared.Record.{Record}
use Rattle.sheet.specs.All.{all_below}
use Rattle.sheet.specs.Names.{charts, bindings, chart_parameters, bound_chart}
use Rattle.sheet.specs.Sheet.{count_of, record_of}
use Rattle.sheet.proofs.All.{true_false, all_more, all_fails_lem}
use Rattle.sheet_rules.specs.Fields.{is_field, field_of, holds, number_or0, sum_below, one_if, count_below}
use Rattle.sheet_rules.specs.Bindings.{constants_in_record, records_for, chart_bound, behind, first_binding, elements_bound_in, constant_record, constant_binding, constant_field, constant_of}
use Rattle.sheet_rules.proofs.Fields.{holds-present, holds_absent, number-present, number_absent}
use Rattle.sheet_rules.proofs.Sums.{count-on}

-- ---- how many records

pub one_record : (n : ℕ) → n ≤ constants_in_record → records_for n ≡ 1
unfolding records_for
one_record n l = rw (records_for, le-leb n constants_in_record l) refl

pub two_records : (n : ℕ) → constants_in_record < n → records_for n ≡ 2
unfolding records_for
two_records n l = rw (records_for, lt-leb n constants_in_record l) refl

pub records-few : (n : ℕ) → (1 ≤ records_for n) × (records_for n ≤ 2)
unfolding records_for
records-few n = go (leb n constants_in_record)
  where
    go : (b : Bool) → (1 ≤ (elim b [ true ↦ 1 | false ↦ 2 ])) × ((elim b [ true ↦ 1 | false ↦ 2 ]) ≤ 2)
    go true = (omega arith, omega arith)
    go false = (omega arith, omega arith)

-- ---- counts of a test that holds up to a number and no further

count_from_lem : (p : ℕ → Bool) (i n : ℕ) → ((j : ℕ) → i ≤ j → p j ≡ false) → count_below n p ≤ i
unfolding count_below sum_below
count_from_lem p i zero h = omega arith
count_from_lem p i (suc n) h = elim (dec_lt n i) [
  | yes q ↦ omega (arith, (count-on p 0 (suc n) (omega arith)).1)
  | no q ↦ omega (arith, count_from_lem p i n h, ap one_if (h n (omega arith)))
]

count_to : (p : ℕ → Bool) (n : ℕ) → ((j : ℕ) → j < n → p j ≡ true) → count_below n p ≡ n
unfolding count_below sum_below
count_to p zero h = refl
count_to p (suc n) h = omega (arith, count_to p n (λ j l. h j (omega arith)), ap one_if (h n (omega arith)))

module _ (s : List ℕ) where
  -- ---- the chart that a record names

  pub bound-chart : (k : ℕ) (b : Record) → record_of s bindings k ≡ Some b → chart_bound s k ≡ record_of s charts (bound_chart b)
  unfolding chart_bound
  bound-chart k b e = rw (chart_bound, e) refl

  pub bound-none : (k : ℕ) → record_of s bindings k ≡ None → chart_bound s k ≡ None
  unfolding chart_bound
  bound-none k e = rw (chart_bound, e) refl

  pub chart-bound : (k : ℕ) (c : Record) → chart_bound s k ≡ Some c → (b : Record) × (record_of s bindings k ≡ Some b) × (record_of s charts (bound_chart b) ≡ Some c)
  chart-bound k c = go (record_of s bindings k) refl
    where
      go : (f : Option Record) → record_of s bindings k ≡ f → chart_bound s k ≡ Some c → (b : Record) × (record_of s bindings k ≡ Some b) × (record_of s charts (bound_chart b) ≡ Some c)
      go (Some b) e h = (b, e, sym (bound-chart k b e) ∙ h)
      go None e h = absurd (true_false (holds-present _ c (λ r. true) h) (holds_absent _ (λ r. true) (bound-none k e)))

  -- ---- the record behind an element's

  pub behind-chart : (k : ℕ) (c : Record) → chart_bound s k ≡ Some c → behind s k ≡ k + records_for (chart_parameters c).count
  unfolding behind
  behind-chart k c e = ap (λ (n : ℕ). k + records_for n) (number-present _ c _ e)

  pub behind-none : (k : ℕ) → chart_bound s k ≡ None → behind s k ≡ k + 1
  unfolding behind
  behind-none k e = ap (λ (n : ℕ). k + records_for n) (number_absent _ _ e) ∙ ap (λ (n : ℕ). k + n) (one_record 0 (omega arith))

  pub behind_near : (k : ℕ) → (k < behind s k) × (behind s k ≤ k + 2)
  unfolding behind
  behind_near k = let r = records-few (number_or0 (chart_bound s k) (λ c. (chart_parameters c).count)) in (omega (arith, r.0), omega (arith, r.1))

  -- ---- an element's first record

  pub first_next : (i : ℕ) → first_binding s (i + 1) ≡ behind s (first_binding s i)
  unfolding first_binding
  first_next i = rw add-one refl

  pub first_most : (i : ℕ) → (i ≤ first_binding s i) × (first_binding s i ≤ 2 * i)
  unfolding first_binding
  first_most zero = (omega arith, omega arith)
  first_most (suc i) = let r = first_most i in let b = behind_near (first_binding s i) in (omega (arith, r.0, b.0), omega (arith, r.1, b.1))

  first_on : (i j : ℕ) → i ≤ j → first_binding s i ≤ first_binding s j
  unfolding first_binding
  first_on i zero l = let e : i ≡ zero = omega arith in rw e (omega arith)
  first_on i (suc j) l = elim (dec_lt i (suc j)) [
    | yes q ↦ omega (arith, first_on i j (omega arith), (behind_near (first_binding s j)).0)
    | no q ↦ (let e : i ≡ suc j = omega arith in rw e (omega arith))
  ]

  -- the elements that the section binds are those whose first record stands in it
  pub inside-bound : (i : ℕ) → first_binding s i < count_of s bindings → i < elements_bound_in s
  unfolding elements_bound_in
  inside-bound i l =
      omega (
        arith,
        count_to inside (suc i) (λ j q. lt-ltb _ _ (let z : first_binding s j < count_of s bindings = omega (arith, first_on j i (omega arith)) in z)),
        (count-on inside (suc i) (count_of s bindings) (omega (arith, (first_most i).0))).0,
      )
    where
      inside : ℕ → Bool
      inside j = ltb (first_binding s j) (count_of s bindings)

  pub bound-inside : (i : ℕ) → i < elements_bound_in s → first_binding s i < count_of s bindings
  unfolding elements_bound_in
  bound-inside i l = elim (dec_lt (first_binding s i) (count_of s bindings)) [
    | yes q ↦ q
    | no q ↦ absurd (omega (arith, count_from_lem (λ j. ltb (first_binding s j) (count_of s bindings)) i (count_of s bindings) (λ j m. le-ltb _ _ (let z : count_of s bindings ≤ first_binding s j = omega (arith, first_on i j m) in z))))
  ]

-- ---- going over the section, from each element's first record to the one behind its last

-- record k is the first one of element i, or stands behind those of the last
pub record Walk (s : List ℕ) (k i : ℕ) : Type 0 where
  pub at : k ≡ first_binding s i
  pub within : i ≤ elements_bound_in s

module _ (s : List ℕ) where
  pub walk_begins : Walk s 0 0
  unfolding first_binding
  walk_begins = record { at = refl; within = omega arith }

  module _ (k i : ℕ) (w : Walk s k i) where
    pub walk_inside : k < count_of s bindings → i < elements_bound_in s
    walk_inside l = inside-bound s i (omega (arith, w.at))

    pub walk_on_lem : (n : ℕ) → n ≡ behind s k → k < count_of s bindings → Walk s n (i + 1)
    walk_on_lem n e l = record { at = e ∙ ap (behind s) w.at ∙ sym (first_next s i); within = omega (arith, walk_inside l) }

    pub walk_ends : count_of s bindings ≤ k → elements_bound_in s ≡ i
    walk_ends l = elim (dec_lt i (elements_bound_in s)) [
      | yes q ↦ absurd (omega (arith, w.at, bound-inside s i q))
      | no q ↦ omega (arith, w.within)
    ]

-- the elements before record k meet a test, each by its first record
pub record Walked (s : List ℕ) (p : ℕ → Bool) (k : ℕ) : Type 0 where
  pub number : ℕ
  pub walk : Walk s k number
  pub met : all_below number (λ i. p (first_binding s i)) ≡ true

module _ (s : List ℕ) (p : ℕ → Bool) where
  pub walked_begins : Walked s p 0
  unfolding all_below
  walked_begins = record { number = 0; walk = walk_begins s; met = refl }

  module _ (k : ℕ) (w : Walked s p k) where
    pub walked_on : (n : ℕ) → n ≡ behind s k → k < count_of s bindings → p k ≡ true → Walked s p n
    walked_on n e l h = record { number = w.number + 1; walk = walk_on_lem s k w.number w.walk n e l; met = all_more w.number _ w.met (ap p (sym w.walk.at) ∙ h) }

    pub walked_fails : k < count_of s bindings → p k ≡ false → false ≡ all_below (elements_bound_in s) (λ i. p (first_binding s i))
    walked_fails l h = sym (all_fails_lem (elements_bound_in s) _ w.number (walk_inside s k w.number w.walk l) (ap p (sym w.walk.at) ∙ h))

    pub walked_ends : count_of s bindings ≤ k → true ≡ all_below (elements_bound_in s) (λ i. p (first_binding s i))
    walked_ends l = sym (ap (λ (n : ℕ). all_below n (λ i. p (first_binding s i))) (walk_ends s k w.number w.walk l) ∙ w.met)

-- ---- where a constant stands

pub constant_first : (k j : ℕ) → j < constants_in_record → (constant_record k j ≡ k) × (constant_field j ≡ 1 + j)
unfolding constant_record constant_field
constant_first k j l = rw (constant_record, constant_field, lt-ltb j constants_in_record l) (refl, refl)

pub constant_second : (k j : ℕ) → constants_in_record ≤ j → (constant_record k j ≡ k + 1) × (constant_field j ≡ 1 + (j - constants_in_record))
unfolding constant_record constant_field
constant_second k j l = rw (constant_record, constant_field, le-ltb j constants_in_record l) (refl, refl)

-- "up to 14 parameters": each has a field
pub constant_inside : (j : ℕ) → j < 14 → is_field (constant_field j) ≡ true
constant_inside j l = elim (dec_lt j constants_in_record) [
  | yes q ↦ lt-ltb (constant_field j) 8 (omega (arith, (constant_first 0 j q).1))
  | no q ↦ lt-ltb (constant_field j) 8 (omega (arith, (constant_second 0 j (omega arith)).1))
]

-- the record with a constant, by its number, and a test of the constant in it
module _ (s : List ℕ) (k j m : ℕ) (at : m ≡ constant_record k j) where
  pub constant_absent : (q : Record → Bool) → record_of s bindings m ≡ None → holds (constant_binding s k j) q ≡ false
  constant_absent q e = holds_absent _ q (ap (record_of s bindings) (sym at) ∙ e)

  pub constant_present : (p : ℕ → Bool) (b : Record) (f n : ℕ) (x : Bool) → record_of s bindings m ≡ Some b → f ≡ constant_field j → n ≡ field_of b f → x ≡ p n → holds (constant_binding s k j) (λ b. p (constant_of b j)) ≡ x
  constant_present p b f n x e field node is = holds-present _ b _ (ap (record_of s bindings) (sym at) ∙ e) ∙ ap p (sym (node ∙ ap (field_of b) field)) ∙ sym is
