-- Where the cells of an element lie: in the state, and apart from the cells of others.
use Rattle.std.specs.Prelude.{Some}
use Prim.Native.Nat.{ℕ, suc, ◌+◌, ◌-◌, ◌<◌, ◌≤◌}
use mathlib.Core.Path.{◌≡◌, refl, sym, ap, ◌∙◌}
use mathlib.Core.List.{List}
use mathlib.Core.Bool.{true}
use native.Mathlib.Omega.{arith}
use native.Mathlib.Decide.{dec_lt}
use borrow.Author.Tests.{leb-true, ltb-true}
use Rattle.sheet.specs.declared.Record.{Record}
use Rattle.sheet.specs.Names.{chart_variables}
use Rattle.sheet.proofs.All.{and_first, and_second}
use Rattle.sheet_rules.specs.Fields.{sum_below, components_of, externals_of, elements_of}
use Rattle.sheet_rules.specs.Indices.{cells_taken, cells_before}
use Rattle.sheet_rules.specs.Shape.{cells_bound, cells_of}
use Rattle.machine.specs.Values.{is_bound, binding_at, chart_of, first_cell}
use Rattle.sheet_rules.proofs.Fields.{number-present}
use Rattle.sheet_rules.proofs.Sums.{sum_rises}
use Rattle.machine_passed.proofs.Records.{one_record}
use Rattle.machine_passed.proofs.Charts.{chart_of_lem, chart-element}

pub cells-none : (s : List ℕ) (c : Record) → cells_before s c 0 ≡ 0
unfolding cells_before sum_below
cells-none s c = refl

pub cells_next : (s : List ℕ) (c : Record) (j : ℕ) → cells_before s c (suc j) ≡ cells_before s c j + cells_taken s ((chart_variables c).first + j)
unfolding cells_before sum_below
cells_next s c j = refl

-- the cells of a variable lie before those of a later one
pub variable-cells : (s : List ℕ) (c : Record) (j n : ℕ) → j < n → cells_before s c j + cells_taken s ((chart_variables c).first + j) ≤ cells_before s c n
unfolding cells_before
variable-cells s c j n l = sum_rises (λ i. cells_taken s ((chart_variables c).first + i)) j n l

module _ (s : List ℕ) (e : ℕ) (c : Record) (p : chart_of s e ≡ Some c) where
  pub element-bound : is_bound s e ≡ true
  element-bound = (chart-element s e c p).1.bound

  pub element-count : cells_bound s (e - externals_of s) ≡ cells_before s c (chart_variables c).count
  unfolding cells_bound binding_at
  element-count = number-present _ c _ (chart_of_lem s e element-bound ∙ p)

  pub element_from : externals_of s ≤ e
  unfolding is_bound
  element_from = leb-true _ _ (and_first _ _ element-bound)

  pub element-below : e < components_of s
  unfolding is_bound
  element-below = ltb-true _ _ (and_second _ _ element-bound)

  pub element-number : e - externals_of s < elements_of s
  unfolding elements_of
  element-number = omega (arith, element_from, element-below)

  pub element-cells : first_cell s e + cells_before s c (chart_variables c).count ≤ cells_of s
  unfolding first_cell cells_of
  element-cells = omega (arith, sum_rises (cells_bound s) (e - externals_of s) (elements_of s) element-number, element-count)

  -- every cell is one of the state's
  pub cell_below : (j k : ℕ) → j < (chart_variables c).count → k < cells_taken s ((chart_variables c).first + j) → first_cell s e + cells_before s c j + k < cells_of s
  cell_below j k l m = omega (arith, element-cells, variable-cells s c j (chart_variables c).count l)

module _ (s : List ℕ) (e : ℕ) (c : Record) (p : chart_of s e ≡ Some c) (e' : ℕ) (c' : Record) (p' : chart_of s e' ≡ Some c') where
  -- the cells of an earlier element lie before
  cells-before : e < e' → first_cell s e + cells_before s c (chart_variables c).count ≤ first_cell s e'
  unfolding first_cell
  cells-before l = omega (arith, sum_rises (cells_bound s) (e - externals_of s) (e' - externals_of s) (omega (arith, element_from s e c p, element_from s e' c' p')), element-count s e c p)

-- one element has one chart
pub one-chart : (s : List ℕ) (e e' : ℕ) (c c' : Record) → e ≡ e' → chart_of s e ≡ Some c → chart_of s e' ≡ Some c' → c ≡ c'
one-chart s e e' c c' q p p' = one_record c c' (sym p ∙ ap (chart_of s) q ∙ p')

-- cell k of variable j, and cell k' of variable j', of elements e and e'
module _ (s : List ℕ) (e : ℕ) (c : Record) (p : chart_of s e ≡ Some c) (e' : ℕ) (c' : Record) (p' : chart_of s e' ≡ Some c') (j j' k k' : ℕ) (l : j < (chart_variables c).count) (l' : j' < (chart_variables c').count) (m : k < cells_taken s ((chart_variables c).first + j)) (m' : k' < cells_taken s ((chart_variables c').first + j')) (q : first_cell s e + cells_before s c j + k ≡ first_cell s e' + cells_before s c' j' + k') where
  same_element : e ≡ e'
  same_element = elim (dec_lt e e') [
    | yes h ↦ absurd (omega (arith, cells-before s e c p e' c' p' h, variable-cells s c j (chart_variables c).count l))
    | no h ↦ elim (dec_lt e' e) [
      | yes h' ↦ absurd (omega (arith, cells-before s e' c' p' e c p h', variable-cells s c' j' (chart_variables c').count l'))
      | no h' ↦ omega arith
    ]
  ]

  pub cells_apart : (e ≡ e') × (c ≡ c') × (j ≡ j') × (k ≡ k')
  cells_apart =
      let same = same_element in
      let chart = one-chart s e e' c c' same p p' in
      let here : cells_before s c' j' ≡ cells_before s c j' = ap (λ (c : Record). cells_before s c j') (sym chart) in
      let taken : cells_taken s ((chart_variables c').first + j') ≡ cells_taken s ((chart_variables c).first + j') = ap (λ (c : Record). cells_taken s ((chart_variables c).first + j')) (sym chart) in
      let first : first_cell s e ≡ first_cell s e' = ap (first_cell s) same in
      let number : j ≡ j' = elim (dec_lt j j') [
        | yes h ↦ absurd (omega (arith, variable-cells s c j j' h))
        | no h ↦ elim (dec_lt j' j) [
          | yes h' ↦ absurd (omega (arith, variable-cells s c j' j h'))
          | no h' ↦ omega arith
        ]
      ] in
      let before : cells_before s c j ≡ cells_before s c j' = ap (cells_before s c) number in
      (same, chart, number, omega arith)
