-- Charts by the number of a binding record, and the table of cells.
use Rattle.std.specs.Prelude.{Some, None}
use Prim.Native.Nat.{ℕ, ◌+◌, ◌*◌, ◌-◌, ◌<◌, ◌≤◌}
use mathlib.Core.Path.{◌≡◌, refl, sym, ap, subst, ◌∙◌}
use mathlib.Core.List.{List}
use mathlib.Core.Bool.{true}
use native.Mathlib.Omega.{arith}
use native.Mathlib.Numerals.{add-one}
use native.Mathlib.Decide.{ℕ_discrete}
use lib.ListN.{length, get_or, set, length-set}
use lib.Seq.{get_or-set_same, get_or-set_other}
use borrow.Author.Tests.{leb-true, ltb-true}
use Rattle.sheet.specs.declared.Record.{Record}
use Rattle.sheet.specs.Names.{charts, bindings, bound_chart, chart_parameters, chart_variables}
use Rattle.sheet.specs.Sheet.{record_of}
use Rattle.sheet.proofs.All.{true_false, and_first, and_second}
use Rattle.sheet_rules.specs.declared.Checked.TheVariants.{Passed}
use Rattle.sheet_rules.specs.Fields.{field_of, field_at, sum_below, components_of, externals_of, elements_of}
use Rattle.sheet_rules.specs.Bindings.{records_for, chart_bound, behind, first_binding}
use Rattle.sheet_rules.specs.Indices.{cells_taken, cells_before}
use Rattle.sheet_rules.specs.Shape.{chart_shape, cells_bound, cells_of}
use Rattle.sheet_rules.specs.Check.{check_of}
use Rattle.sheet_rules.proofs.Fields.{holds-present, holds_absent, number-present, sum_more}
use Rattle.sheet_rules.proofs.Bindings.{behind-chart, first_next}
use Rattle.machine.specs.Values.{is_bound, binding_at, chart_of, first_cell}
use Rattle.machine_passed.proofs.Records.{elements-rest, components_limit, two_externals, chart-shape, one_record}
use Rattle.machine_passed.proofs.Charts.{number_bound, bound-element, chart_of_lem, element-chart, chart-element}
use Rattle.sheet_rules.proofs.Sums.{sum_rises}
use Rattle.machine_states.proofs.Elements.{cells-none, cells_next, element-bound, element-count, element-number}
use Rattle.engine_cells.specs.Cells.{CellTable, Row}

-- ---- elements

pub elements_by : (s : List ℕ) (m n : ℕ) → m ≡ field_at s 0 0 0 → n ≡ field_at s 0 0 1 → m - n ≡ elements_of s
unfolding elements_of components_of externals_of field_at field_of
elements_by s m n p q = rw (p, q) refl

pub externals_by : (s : List ℕ) (n : ℕ) → n ≡ field_at s 0 0 1 → n ≡ externals_of s
unfolding externals_of field_at field_of
externals_by s n p = p

pub components_by : (s : List ℕ) (n : ℕ) → n ≡ field_at s 0 0 0 → n ≡ components_of s
unfolding components_of field_at field_of
components_by s n p = p

module _ (s : List ℕ) (ok : check_of s ≡ Passed) where
  -- a place for each bound element
  pub bound-below : elements_of s < 64
  bound-below = omega (arith, elements-rest s ok, components_limit s ok, two_externals s ok)

  -- "up to 32 variables"
  pub chart_variables_lem : (e : ℕ) (c : Record) → chart_of s e ≡ Some c → (chart_variables c).count ≤ 32
  unfolding chart_shape
  chart_variables_lem e c p = let x = chart-element s e c p in leb-true _ _ (and_first _ _ (and_second _ _ (and_second _ _ (and_second _ _ (chart-shape s ok (bound_chart x.0) c x.1.chart)))))

  -- element e has a row, and its chart is the one that its first record names
  module _ (e : ℕ) (h : is_bound s e ≡ true) where
    pub row_below : (externals_of s ≤ e) × (e < externals_of s + 64)
    unfolding is_bound
    row_below = (leb-true _ _ (and_first _ _ h), (let l : e < components_of s = ltb-true _ _ (and_second _ _ h) in omega (arith, components_limit s ok)))

    pub row_chart : (t : List ℕ) → CellTable s t → (i n : ℕ) → i ≡ e - externals_of s → n ≡ field_at s bindings (get_or t (34 * i + 33) 0) 0 → record_of s charts n ≡ chart_of s e
    unfolding field_at field_of
    row_chart t table i n row is =
        let x = bound-element s ok e h in
        let chart = element-chart s e x.0 x.1 x.2 in
        let k = ap (λ i. get_or t (34 * i + 33) 0) row ∙ table.binding e x.1 chart in
        ap (record_of s charts) (is ∙ number-present _ x.0 _ (ap (record_of s bindings) k ∙ x.2.binding)) ∙ x.2.chart ∙ sym chart

  -- element i among those bound, whose first binding record is k
  module _ (i k : ℕ) (l : i < elements_of s) (at : k ≡ first_binding s i) where
    is_bound_lem : is_bound s (externals_of s + i) ≡ true
    is_bound_lem = number_bound s i l

    pub bound_is : chart_bound s k ≡ chart_of s (externals_of s + i)
    unfolding binding_at
    bound_is = ap (chart_bound s) (at ∙ ap (first_binding s) (let z : i ≡ externals_of s + i - externals_of s = omega arith in z)) ∙ chart_of_lem s (externals_of s + i) is_bound_lem

    pub bound-there : chart_bound s k ≡ None → ⊥
    bound-there q =
        let x = bound-element s ok (externals_of s + i) is_bound_lem in
        let there = element-chart s (externals_of s + i) x.0 x.1 x.2 in
        true_false (holds-present _ x.1 (λ c. true) there) (holds_absent _ (λ c. true) (sym bound_is ∙ q))

    module _ (c : Record) (p : chart_bound s k ≡ Some c) where
      pub bound-chart : chart_of s (externals_of s + i) ≡ Some c
      bound-chart = sym bound_is ∙ p

      pub bound-count : cells_bound s i ≡ cells_before s c (chart_variables c).count
      bound-count = let e : externals_of s + i - externals_of s ≡ i = omega arith in rw e at (element-count s (externals_of s + i) c bound-chart)

      -- the cells of the element and of those before it are all in the state
      pub bound-inside : (cell : ℕ) → cell ≡ sum_below i (cells_bound s) → cell + cells_before s c (chart_variables c).count ≤ cells_of s
      unfolding cells_of
      bound-inside cell q = omega (arith, sum_rises (cells_bound s) i (elements_of s) l, bound-count)

      pub bound_next : (cell : ℕ) → cell ≡ sum_below i (cells_bound s) → cell + cells_before s c (chart_variables c).count ≡ sum_below (i + 1) (cells_bound s)
      bound_next cell q = omega (arith, sum_more i (cells_bound s), bound-count)

      -- the next element's first record
      pub binding_next : (n : ℕ) → n ≡ records_for (chart_parameters c).count → k + n ≡ first_binding s (i + 1)
      binding_next n q = ap (λ (n : ℕ). k + n) q ∙ sym (behind-chart s k c p) ∙ ap (behind s) at ∙ sym (first_next s i)

  pub bound_all : (cell i : ℕ) → i ≤ elements_of s → elements_of s ≤ i → cell ≡ sum_below i (cells_bound s) → cell ≡ cells_of s
  unfolding cells_of
  bound_all cell i l m q = let e : elements_of s ≡ i = omega arith in rw e q

-- ---- a row of the table

module _ (s : List ℕ) (c : Record) (at cell : ℕ) where
  pub row-none : (t : List ℕ) → length t ≡ 2176 → Row s c at cell 0 t t
  row-none t l = record { size = l; new = λ m k. absurd (omega arith); old = λ m k. refl }

  pub row_more : (n x : ℕ) (t t' : List ℕ) → at + n < 2176 → x ≡ cell + cells_before s c n → Row s c at cell n t t' → Row s c at cell (n + 1) t (set t' (at + n) x)
  row_more n x t t' l e h = record {
    size = length-set t' (at + n) x ∙ h.size;
    new = λ m k. elim (ℕ_discrete m n) [
      | yes q ↦ rw q (get_or-set_same t' (at + n) x 0 (omega (arith, h.size)) ∙ e)
      | no q ↦ get_or-set_other t' (at + n) (at + m) x 0 (λ r. q (omega arith)) ∙ h.new m (omega arith)
    ];
    old = λ m k. get_or-set_other t' (at + n) m x 0 (λ r. omega arith) ∙ h.old m k;
  }

  pub row_whole : (n x : ℕ) (t t' : List ℕ) → n ≡ (chart_variables c).count → at + n < 2176 → x ≡ cell + cells_before s c n → Row s c at cell n t t' → (x ≡ cell + cells_before s c (chart_variables c).count) × Row s c at cell ((chart_variables c).count + 1) t (set t' (at + (chart_variables c).count) x)
  row_whole n x t t' q l e h = (e ∙ ap (λ (k : ℕ). cell + cells_before s c k) q, subst (λ (k : ℕ). Row s c at cell (k + 1) t (set t' (at + k) x)) q (row_more n x t t' l e h))

-- one variable more
pub next_cell : (s : List ℕ) (c : Record) (cell n x y : ℕ) → x ≡ cell + cells_before s c n → y ≡ cells_taken s ((chart_variables c).first + n) → x + y ≡ cell + cells_before s c (n + 1)
next_cell s c cell n x y p q = rw add-one (omega (arith, cells_next s c n))

pub no_cells : (s : List ℕ) (c : Record) (cell : ℕ) → cell ≡ cell + cells_before s c 0
no_cells s c cell = omega (arith, cells-none s c)

-- ---- rows

-- the rows of the first i elements are there
pub record Rows (s : List ℕ) (i : ℕ) (t : List ℕ) : Type 0 where
  pub size : length t ≡ 2176
  pub right : (j : ℕ) (c : Record) → j < i → chart_bound s (first_binding s j) ≡ Some c → (n : ℕ) → n ≤ (chart_variables c).count → get_or t (34 * j + n) 0 ≡ sum_below j (cells_bound s) + cells_before s c n
  pub binding : (j : ℕ) → j < i → get_or t (34 * j + 33) 0 ≡ first_binding s j

pub rows_none : (s t : List ℕ) → length t ≡ 2176 → Rows s 0 t
rows_none s t l = record { size = l; right = λ j c m. absurd (omega arith); binding = λ j m. absurd (omega arith) }

module _ (s : List ℕ) (ok : check_of s ≡ Passed) where
  pub rows_more : (i k cell : ℕ) (c : Record) (t t' : List ℕ) → i < elements_of s → k ≡ first_binding s i → chart_bound s k ≡ Some c → cell ≡ sum_below i (cells_bound s) → Row s c (34 * i) cell ((chart_variables c).count + 1) t t' → Rows s i t → Rows s (i + 1) (set t' (34 * i + 33) k)
  rows_more i k cell c t t' l at p q h r = record {
    size = length-set t' (34 * i + 33) k ∙ h.size;
    right = λ j d m e n b. elim (ℕ_discrete j i) [
      | yes z ↦ (
          let same : d ≡ c = one_record d c (sym e ∙ ap (λ j. chart_bound s (first_binding s j)) z ∙ ap (chart_bound s) (sym at) ∙ p) in
          let small = chart_variables_lem s ok (externals_of s + i) c (bound-chart s ok i k l at c p) in
          let f : n < (chart_variables c).count + 1 = omega (arith, ap (λ (c : Record). (chart_variables c).count) same) in
          rw (z, same, sym q) (get_or-set_other t' (34 * i + 33) (34 * i + n) k 0 (λ g. omega arith) ∙ h.new n f))
      | no z ↦ (
          let small = chart_variables_lem s ok (externals_of s + j) d (bound-chart s ok j (first_binding s j) (omega arith) refl d e) in
          let kept = get_or-set_other t' (34 * i + 33) (34 * j + n) k 0 (λ g. omega arith) ∙ h.old (34 * j + n) (omega arith) in
          kept ∙ r.right j d (omega arith) e n b)
    ];
    binding = λ j m. elim (ℕ_discrete j i) [
      | yes z ↦ rw z (get_or-set_same t' (34 * i + 33) k 0 (omega (arith, h.size, bound-below s ok)) ∙ at)
      | no z ↦ get_or-set_other t' (34 * i + 33) (34 * j + 33) k 0 (λ g. omega arith) ∙ h.old (34 * j + 33) (omega arith) ∙ r.binding j (omega arith)
    ];
  }

  pub rows_all : (i : ℕ) (t : List ℕ) → elements_of s ≤ i → Rows s i t → CellTable s t
  unfolding first_cell binding_at
  rows_all i t l r = record {
    size = r.size;
    right = λ e c p n m. r.right (e - externals_of s) c (omega (arith, element-number s e c p)) (chart_of_lem s e (element-bound s e c p) ∙ p) n m;
    binding = λ e c p. r.binding (e - externals_of s) (omega (arith, element-number s e c p));
  }
