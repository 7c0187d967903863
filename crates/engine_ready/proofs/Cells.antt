-- Where the cells of a running body's variables lie, by its numbers.
use Rattle.std.specs.Prelude.{Some, Option, None}
use Prim.Native.Nat.{ℕ, ◌+◌, ◌-◌, ◌<◌, ◌≤◌}
use mathlib.Core.Path.{◌≡◌, refl, sym, ap, ◌∙◌}
use mathlib.Core.List.{List}
use mathlib.Core.Bool.{Bool, true, false, true≢false}
use native.Mathlib.Omega.{arith}
use lib.ListN.{length}
use lib.IntN.{ℤ, nat_abs}
use borrow.Author.Tests.{leb-true}
use Rattle.sheet.specs.Names.{chart_variables}
use Rattle.sheet.proofs.All.{and_first, and_second}
use Rattle.sheet_rules.specs.Indices.{index_at, is_plain, cells_taken, cells_before}
use Rattle.sheet_rules.specs.Shape.{most_cells, chart_shape}
use Rattle.machine.specs.Values.{is_below, chart_of}
use Rattle.sheet_rules.specs.declared.Checked.TheVariants.{Passed}
use Rattle.sheet_rules.specs.Check.{check_of}
use Rattle.machine.specs.State.{cell_at, cell_of}
use Rattle.machine.specs.Valid.{OfSheet}
use Rattle.machine_passed.proofs.Records.{chart-shape, cells_limit}
use Rattle.machine_passed.proofs.Charts.{element-chart}
use Rattle.machine_passed.proofs.Indices.{has_cell}
use Rattle.sheet_rules.proofs.Fields.{sum_more}
use Rattle.machine_states.proofs.Elements.{variable-cells, element-cells}
use Rattle.machine_states.proofs.Parts.{below_abs}
use Rattle.machine_states.proofs.Kept.{cell_in_state}
use Rattle.engine_store.specs.Layout.{longest}
use Rattle.engine_store.proofs.Lies.{at_most}
use Rattle.engine_context.specs.Context.{element_in, cell_in, leads_to}
use Rattle.engine_ready.specs.Ready.{context_at, Running, Ready, Lies, Reaches}

-- "Elements have at most 512 variables together"
state-short : (s : List ℕ) (st : List ℤ) → check_of s ≡ Passed → OfSheet s st → length st ≤ longest
state-short s st ok o = at_most s (length st) (cells_limit s ok) o.whole

-- where an index leads, the state has a word
pub leads_inside : (w : List ℕ) (st : List ℤ) (n : ℕ) → Reaches w st n → (i : ℤ) (k : ℕ) → leads_to w n i ≡ Some k → k < length st
unfolding leads_to
leads_inside w st n h i k = go (is_below i (cell_in w (n + 1) - cell_in w n)) (λ b. h.inside (nat_abs i) (below_abs i _ b))
  where
    word : Option ℕ → ℕ
    word (Some k) = k
    word None = 0

    leads : Option ℕ → Bool
    leads (Some k) = true
    leads None = false

    go : (b : Bool) → (b ≡ true → cell_at (cell_in w n + nat_abs i) + 8 ≤ length st) → elim b [ true ↦ Some (cell_at (cell_in w n + nat_abs i)) | false ↦ None ] ≡ Some k → k < length st
    go true l e = let q : cell_at (cell_in w n + nat_abs i) ≡ k = ap word e in omega (arith, l refl)
    go false l e = absurd (true≢false (sym (ap leads e)))

module _ (s w : List ℕ) (running : Running s w) where
  -- "variables (up to 32)"
  few_variables : (chart_variables (context_at s w).chart).count ≤ 32
  unfolding chart_shape
  few_variables = leb-true _ _ (and_first _ _ (and_second _ _ (and_second _ _ (and_second _ _ (chart-shape s running.passed _ _ running.placed.element.chart)))))

  module _ (n : ℕ) (h : n < (chart_variables (context_at s w).chart).count) where
    pub cell_is : (k : ℕ) → cell_of s (context_at s w).element (context_at s w).chart n k ≡ cell_at (cell_in w n + k)
    unfolding cell_of context_at
    cell_is k = ap cell_at (omega (arith, running.cells n (omega arith)))

    -- a plain variable's cell
    pub plain_is_lem : cell_of s (context_at s w).element (context_at s w).chart n 0 ≡ cell_at (cell_in w n)
    plain_is_lem = cell_is 0 ∙ ap cell_at (omega arith)

    next_is_lem : cell_in w (n + 1) ≡ cell_in w n + cells_taken s ((chart_variables (context_at s w).chart).first + n)
    unfolding cells_before
    next_is_lem = omega (arith, running.cells n (omega arith), running.cells (n + 1) (omega arith), sum_more n (λ j. cells_taken s ((chart_variables (context_at s w).chart).first + j)))

    pub taken_is : cell_in w (n + 1) - cell_in w n ≡ cells_taken s ((chart_variables (context_at s w).chart).first + n)
    taken_is = omega (arith, next_is_lem)

module _ (s w : List ℕ) (st lo : List ℤ) (ready : Ready s w st lo) (n : ℕ) (h : n < (chart_variables (context_at s w).chart).count) where
  own : chart_of s (context_at s w).element ≡ Some (context_at s w).chart
  own = element-chart s _ _ _ ready.running.placed.element

  -- every cell of a variable lies in the state
  cell_inside : (k : ℕ) → k < cells_taken s ((chart_variables (context_at s w).chart).first + n) → cell_at (cell_in w n + k) + 8 ≤ length st
  cell_inside k l = let e = cell_is s w ready.running n h k in omega (arith, cell_in_state s st ready.state _ _ own n h k l)

  few-cells : cell_in w (n + 1) ≤ most_cells
  unfolding context_at
  few-cells = omega (arith, next_is_lem s w ready.running n h, ready.running.cells n (omega arith), variable-cells s (context_at s w).chart n (chart_variables (context_at s w).chart).count h, element-cells s (element_in w) (context_at s w).chart own, cells_limit s ready.running.passed)

  pub reaches : Reaches w st n
  reaches = record {
    spans = record {
      whole = ready.running.whole;
      number = omega (arith, few_variables s w ready.running);
      rise = omega (arith, next_is_lem s w ready.running n h);
      few = few-cells;
    };
    inside = λ k l. cell_inside k (omega (arith, taken_is s w ready.running n h));
  }

  plain-inside : is_plain (index_at s ((chart_variables (context_at s w).chart).first + n)) ≡ true → cell_at (cell_in w n) + 8 ≤ length st
  plain-inside p = let e = plain_is_lem s w ready.running n h in omega (arith, cell_in_state s st ready.state _ _ own n h 0 (has_cell s _ p))

  pub lies : is_plain (index_at s ((chart_variables (context_at s w).chart).first + n)) ≡ true → Lies w st n
  lies p = record { whole = ready.running.whole; number = omega (arith, few_variables s w ready.running); inside = plain-inside p; short = state-short s st ready.running.passed ready.state }
