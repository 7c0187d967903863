-- What each part of the test adds, as the definitions of the uses count it.
use Rattle.std.specs.Prelude.{Option, Some, None}
use Prim.Native.Nat.{ℕ, zero, suc, ◌+◌, ◌-◌, ◌≤◌, ◌<◌}
use mathlib.Core.Path.{◌≡◌, refl, sym, ap, ◌∙◌}
use mathlib.Core.List.{List}
use mathlib.Core.Bool.{Bool, true, false}
use native.Mathlib.Omega.{arith}
use native.Mathlib.Decide.{dec_lt}
use lib.Dec.{eqb}
use borrow.Author.Tests.{le-leb, lt-leb}
use Rattle.sheet.specs.declared.Record.{Record}
use Rattle.sheet.specs.Names.{charts, bodies, nodes, bindings, root, chart_bodies, chart_parameters, bound_chart}
use Rattle.sheet.specs.Sheet.{count_of, record_of}
use Rattle.sheet.proofs.Sheet.{record_present, record_absent, present-below}
use Rattle.sheet_rules.specs.declared.Operands.{Operands}
use Rattle.sheet_rules.specs.Fields.{one_if, field_of, field_at, holds, number_or0, sum_below, count_below}
use Rattle.sheet_rules.specs.Bindings.{constants_in_record, records_for, chart_bound, behind, first_binding, elements_bound_in, constant_binding, constant_field, constant_of}
use Rattle.sheet_rules.specs.Forms.{operands_of, operand_count, operand_at}
use Rattle.sheet_rules.specs.Uses.{over_bodies, no_chart, chart_or, home_chart, operand_uses, root_uses, constant_uses}
use Rattle.sheet_rules.proofs.Fields.{holds-present, holds_absent, number-present, number_absent}
use Rattle.sheet_rules.proofs.Bindings.{one_record, two_records, bound-chart, behind_near, Walk, walk_begins, walk_on_lem, walk_ends, constant_first, constant_second}
use Rattle.sheet_rules.proofs.Sums.{sum_same, sum-zero, sum_split}
use Rattle.sheet_uses.proofs.Trees.{no_operands, uses-are}
use Rattle.checker_pass.specs.Marks.{Marked, constants_named, gone_to}
use Rattle.checker_pass.proofs.Marking.{marked_as, marked-none, marked_then}

-- ---- the chart of a home

module _ (s : List ℕ) where
  pub home-none : (k : ℕ) → k ≡ 0 → no_chart ≡ home_chart s k
  unfolding home_chart
  home-none k e = rw e refl

  pub home_absent : (k : ℕ) → record_of s charts (k - 1) ≡ None → no_chart ≡ home_chart s k
  unfolding home_chart chart_or
  home_absent zero p = refl
  home_absent (suc k) p = rw (ap (record_of s charts) (let e : k ≡ suc k - 1 = omega arith in e) ∙ p) refl

  pub home-there : (k : ℕ) (c : Record) → (k ≡ 0 → ⊥) → record_of s charts (k - 1) ≡ Some c → c ≡ home_chart s k
  unfolding home_chart chart_or
  home-there zero c n p = absurd (n refl)
  home-there (suc k) c n p = rw (ap (record_of s charts) (let e : k ≡ suc k - 1 = omega arith in e) ∙ p) refl

-- ---- a record that is gone over, or isn't there

module _ (top k : ℕ) (a : List ℕ) where
  pub over_absent : (f : Option Record) (g : Record → ℕ → ℕ) → f ≡ None → (0 ≡ number_or0 f (λ r. 1)) × (0 ≤ 1) × Marked top k a a (λ n. number_or0 f (λ r. g r n))
  over_absent f g p = (sym (number_absent f (λ r. 1) p), omega arith, marked-none top k a _ (λ n l. number_absent f (λ r. g r n) p))

  pub over-present : (d : List ℕ) (f : Option Record) (r : Record) (g : Record → ℕ → ℕ) → f ≡ Some r → Marked top k a d (g r) → (1 ≡ number_or0 f (λ r. 1)) × (1 ≤ 1) × Marked top k a d (λ n. number_or0 f (λ r. g r n))
  over-present d f r g p h = (sym (number-present f r (λ r. 1) p), omega arith, marked_as top k a d _ _ (λ n l. sym (number-present f r (λ r. g r n) p)) h)

-- ---- in turn j: a body's root, a constant, an operand

module _ (s : List ℕ) where
  abbrev pub root_turn : ℕ → ℕ → ℕ → ℕ
  root_turn first n j = number_or0 (record_of s bodies (first + j)) (λ b. one_if (eqb (root b) n))

  abbrev pub body_turn : ℕ → ℕ → ℕ
  body_turn first j = number_or0 (record_of s bodies (first + j)) (λ b. 1)

  abbrev pub chart_turn : ℕ → ℕ
  chart_turn i = number_or0 (record_of s charts i) (over_bodies s (λ b. 1))

  abbrev pub binding_turn : ℕ → ℕ → ℕ
  binding_turn n i = constant_uses s n (first_binding s i)

abbrev pub constant_turn : Record → ℕ → ℕ → ℕ
constant_turn r n j = one_if (eqb (field_of r (1 + j)) n)

abbrev pub operand_turn : Record → Operands → ℕ → ℕ → ℕ
operand_turn r o n j = one_if (eqb (operand_at r o j) n)

module _ (s : List ℕ) (top k : ℕ) (a : List ℕ) where
  pub chart_absent : (i : ℕ) → record_of s charts i ≡ None → (0 ≡ number_or0 (record_of s charts i) (over_bodies s (λ b. 1))) × (0 < 65536) × Marked top k a a (λ n. number_or0 (record_of s charts i) (root_uses s n))
  chart_absent i p = (sym (number_absent _ _ p), omega arith, marked-none top k a _ (λ n l. number_absent _ _ p))

  pub chart_added : (d : List ℕ) (i x : ℕ) (c : Record) → record_of s charts i ≡ Some c → x ≡ sum_below (chart_bodies c).count (body_turn s (chart_bodies c).first) → x < 65536 → Marked top k a d (λ n. sum_below (chart_bodies c).count (root_turn s (chart_bodies c).first n)) → (x ≡ number_or0 (record_of s charts i) (over_bodies s (λ b. 1))) × (x < 65536) × Marked top k a d (λ n. number_or0 (record_of s charts i) (root_uses s n))
  unfolding over_bodies root_uses
  chart_added d i x c p e l h = (e ∙ sym (number-present _ c (over_bodies s (λ b. 1)) p), l, marked_as top k a d _ _ (λ n _. sym (number-present _ c (root_uses s n) p)) h)

-- ---- the constants of the element whose first binding record is k

module _ (s : List ℕ) (k : ℕ) (b : Record) (here : record_of s bindings k ≡ Some b) (total : ℕ) (total-is : total ≡ field_at s charts (bound_chart b) 1) where
  parameters_are : number_or0 (chart_bound s k) (λ c. (chart_parameters c).count) ≡ total
  unfolding field_at field_of
  parameters_are = ap (λ f. number_or0 f (λ c. (chart_parameters c).count)) (bound-chart s k b here) ∙ sym total-is

  -- as many as its chart has parameters, none where there is no such chart
  uses_total : (n : ℕ) → constant_uses s n k ≡ sum_below total (λ j. one_if (holds (constant_binding s k j) (λ b. eqb (constant_of b j) n)))
  unfolding constant_uses count_below number_or0 sum_below
  uses_total n = go (chart_bound s k) ∙ ap (λ (x : ℕ). sum_below x (λ j. one_if (holds (constant_binding s k j) (λ b. eqb (constant_of b j) n)))) parameters_are
    where
      go : (f : Option Record) → number_or0 f (λ c. sum_below (chart_parameters c).count (λ j. one_if (holds (constant_binding s k j) (λ b. eqb (constant_of b j) n)))) ≡ sum_below (number_or0 f (λ c. (chart_parameters c).count)) (λ j. one_if (holds (constant_binding s k j) (λ b. eqb (constant_of b j) n)))
      go (Some c) = refl
      go None = refl

  -- a constant in the first record, and in the second
  first_turn : (n j : ℕ) → j < constants_in_record → one_if (holds (constant_binding s k j) (λ b. eqb (constant_of b j) n)) ≡ constant_turn b n j
  first_turn n j l = let e = constant_first k j l in ap one_if (holds-present _ b _ (ap (record_of s bindings) e.0 ∙ here)) ∙ ap (λ (x : ℕ). one_if (eqb (field_of b x) n)) e.1

  second_turn : (n j : ℕ) → one_if (holds (constant_binding s k (constants_in_record + j)) (λ b. eqb (constant_of b (constants_in_record + j)) n)) ≡ number_or0 (record_of s bindings (k + 1)) (λ d. constant_turn d n j)
  unfolding number_or0
  second_turn n j = let e = constant_second k (constants_in_record + j) (omega arith) in go (record_of s bindings (k + 1)) (ap (record_of s bindings) e.0) (e.1 ∙ (let z : 1 + (constants_in_record + j - constants_in_record) ≡ 1 + j = omega arith in z))
    where
      go : (f : Option Record) → constant_binding s k (constants_in_record + j) ≡ f → constant_field (constants_in_record + j) ≡ 1 + j → one_if (holds (constant_binding s k (constants_in_record + j)) (λ b. eqb (constant_of b (constants_in_record + j)) n)) ≡ number_or0 f (λ d. constant_turn d n j)
      go (Some d) p q = ap one_if (holds-present _ d _ p) ∙ ap (λ (x : ℕ). one_if (eqb (field_of d x) n)) q
      go None p q = ap one_if (holds_absent _ _ p)

  inside : k < count_of s bindings
  inside = present-below s bindings k b here

  module _ (top : ℕ) (a d : List ℕ) where
    -- one record
    pub few_added : total ≤ constants_in_record → Marked top 0 a d (constants_named b total) → (k + 1 ≡ gone_to s k) × (1 ≤ 2) × Marked top 0 a d (λ n. constant_uses s n k)
    unfolding gone_to behind constants_named count_below
    few_added l h =
        (sym (ap (λ (x : Bool). elim x [ true ↦ behind s k | false ↦ count_of s bindings ]) (le-leb _ _ (let z : behind s k ≤ count_of s bindings = omega (arith, next, inside) in z)) ∙ next), omega arith, marked_as top 0 a d _ _ (λ n _. sym (uses_total n ∙ sum_same total _ _ (λ j m. first_turn n j (omega arith)))) h)
      where
        next : behind s k ≡ k + 1
        next = ap (λ (n : ℕ). k + records_for n) parameters_are ∙ ap (λ (n : ℕ). k + n) (one_record total l)

  module _ (many : constants_in_record < total) where
    next_but_one : behind s k ≡ k + 2
    unfolding behind
    next_but_one = ap (λ (n : ℕ). k + records_for n) parameters_are ∙ ap (λ (n : ℕ). k + n) (two_records total many)

    gone_two : (x : ℕ) → x ≡ number_or0 (record_of s bindings (k + 1)) (λ b. 1) → k + (1 + x) ≡ gone_to s k
    unfolding gone_to
    gone_two x x-is = elim (dec_lt (k + 1) (count_of s bindings)) [
      | yes q ↦ (let z : k + (1 + x) ≡ behind s k = omega (arith, next_but_one, x-is ∙ number-present _ _ (λ b. 1) (record_present s bindings (k + 1) q)) in z) ∙ sym (ap (λ (x : Bool). elim x [ true ↦ behind s k | false ↦ count_of s bindings ]) (le-leb (behind s k) (count_of s bindings) (omega (arith, next_but_one))))
      | no q ↦ (let z : k + (1 + x) ≡ count_of s bindings = omega (arith, inside, x-is ∙ number_absent _ (λ b. 1) (record_absent s bindings (k + 1) (omega arith))) in z) ∙ sym (ap (λ (x : Bool). elim x [ true ↦ behind s k | false ↦ count_of s bindings ]) (lt-leb (behind s k) (count_of s bindings) (omega (arith, next_but_one))))
    ]

    uses_two : (n : ℕ) → constant_uses s n k ≡ constants_named b constants_in_record n + number_or0 (record_of s bindings (k + 1)) (λ d. constants_named d (total - constants_in_record) n)
    unfolding constants_named count_below number_or0
    uses_two n =
        uses_total n
        ∙ ap (λ (x : ℕ). sum_below x (λ j. one_if (holds (constant_binding s k j) (λ b. eqb (constant_of b j) n)))) (let z : total ≡ constants_in_record + (total - constants_in_record) = omega arith in z)
        ∙ sum_split constants_in_record (total - constants_in_record) _
        ∙ both (sum_same constants_in_record _ _ (first_turn n)) (sum_same (total - constants_in_record) _ _ (λ j m. second_turn n j) ∙ absorbed (record_of s bindings (k + 1)))
      where
        both : {a b c d : ℕ} → a ≡ b → c ≡ d → a + c ≡ b + d
        both p q = omega (arith, p, q)

        absorbed : (f : Option Record) → sum_below (total - constants_in_record) (λ j. number_or0 f (λ d. constant_turn d n j)) ≡ number_or0 f (λ d. sum_below (total - constants_in_record) (constant_turn d n))
        absorbed (Some r) = refl
        absorbed None = sum-zero (total - constants_in_record) _ (λ j m. refl)

    -- two records
    pub many_added : (top x : ℕ) (a e d : List ℕ) → x ≡ number_or0 (record_of s bindings (k + 1)) (λ b. 1) → x ≤ 1 → Marked top 0 a e (constants_named b constants_in_record) → Marked top 0 e d (λ m. number_or0 (record_of s bindings (k + 1)) (λ b. constants_named b (total - constants_in_record) m)) → (k + (1 + x) ≡ gone_to s k) × (1 + x ≤ 2) × Marked top 0 a d (λ n. constant_uses s n k)
    many_added top x a e d x-is l g h = (gone_two x x-is, omega arith, marked_as top 0 a d _ _ (λ n _. sym (uses_two n)) (marked_then top 0 a e d _ _ g h))

-- from element i's first record to the next element's, or to the section's end where it is the last one, perhaps with a record too few
pub record Reached (s : List ℕ) (i k : ℕ) : Type 0 where
  pub inside : k ≤ count_of s bindings
  pub walk : k < count_of s bindings → Walk s k i
  pub all : count_of s bindings ≤ k → elements_bound_in s ≡ i

module _ (s : List ℕ) where
  pub reached-first : Reached s 0 0
  reached-first = record { inside = omega arith; walk = λ _. walk_begins s; all = λ l. walk_ends s 0 0 (walk_begins s) l }

  pub reached_next : (i k n : ℕ) → Reached s i k → k < count_of s bindings → n ≡ gone_to s k → (k < n) × Reached s (i + 1) n
  unfolding gone_to
  reached_next i k n w l e =
      let on = walk_on_lem s k i (w.walk l) (behind s k) refl l in
      elim (dec_lt (count_of s bindings) (behind s k)) [
        | yes q ↦ (let end : n ≡ count_of s bindings = e ∙ ap reach (lt-leb (behind s k) (count_of s bindings) q) in (omega arith, record { inside = omega arith; walk = λ m. absurd (omega arith); all = λ _. walk_ends s (behind s k) (i + 1) on (omega arith) }))
        | no q ↦ (let next : n ≡ behind s k = e ∙ ap reach (le-leb (behind s k) (count_of s bindings) (omega arith)) in (omega (arith, (behind_near s k).0), record { inside = omega arith; walk = λ _. walk_on_lem s k i (w.walk l) n next l; all = λ m. walk_ends s (behind s k) (i + 1) on (omega arith) }))
      ]
    where
      reach : Bool → ℕ
      reach b = elim b [ true ↦ behind s k | false ↦ count_of s bindings ]

module _ (s : List ℕ) (m k : ℕ) (a : List ℕ) where
  pub operands_absent : (c : Record) → record_of s nodes m ≡ None → (0 ≡ number_or0 (record_of s nodes m) (λ r. 1)) × (0 ≤ 1) × Marked m k a a (operand_uses s c m)
  operands_absent c p = (sym (number_absent _ _ p), omega arith, marked-none m k a _ (λ n l. no_operands s c m n p))

  pub operands_added : (d : List ℕ) (c : Record) (r : Record) (o : Operands) → record_of s nodes m ≡ Some r → o ≡ operands_of s c r → Marked m k a d (λ n. sum_below (operand_count o) (operand_turn r o n)) → (1 ≡ number_or0 (record_of s nodes m) (λ r. 1)) × (1 ≤ 1) × Marked m k a d (operand_uses s c m)
  unfolding count_below
  operands_added d c r o p e h = (sym (number-present _ r (λ r. 1) p), omega arith, marked_as m k a d _ _ (λ n l. ap (λ (o : Operands). sum_below (operand_count o) (operand_turn r o n)) e ∙ sym (uses-are s c m n r p l)) h)
