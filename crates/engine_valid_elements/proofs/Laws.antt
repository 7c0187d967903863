-- Laws of the tests of cells, one for a path of the code.
use Rattle.std.specs.Prelude.{Some}
use Prim.Native.Nat.{ℕ, ◌+◌, ◌*◌, ◌-◌, ◌≤◌, ◌<◌}
use mathlib.Core.Path.{◌≡◌, sym, ap, ◌∙◌}
use mathlib.Core.List.{List}
use mathlib.Core.Bool.{Bool}
use native.Mathlib.Omega.{arith}
use native.Mathlib.Numerals.{add-one}
use lib.ListN.{length, get_or}
use lib.IntN.{ℤ}
use Rattle.sheet.specs.declared.Record.{Record}
use Rattle.sheet.specs.All.{all_below}
use Rattle.sheet.specs.Names.{chart_variables}
use Rattle.sheet_rules.specs.declared.Checked.TheVariants.{Passed}
use Rattle.sheet_rules.specs.Check.{check_of}
use Rattle.sheet_rules.specs.Fields.{type_at, externals_of}
use Rattle.sheet_rules.specs.Indices.{cells_taken, cells_before}
use Rattle.sheet_rules.proofs.Fields.{holds-present}
use Rattle.machine.specs.Values.{chart_of, first_cell}
use Rattle.machine.specs.State.{cell_at, cell_of, place_at, state_length}
use Rattle.machine.specs.Valid.{cell_fits, variable_fits, element_fits}
use Rattle.machine_passed.proofs.Records.{cells_limit}
use Rattle.machine_passed.proofs.Declared.{declared_so_lem, element-declared}
use Rattle.machine_states.proofs.Elements.{cells_next, variable-cells, element-number, element-cells}
use Rattle.engine_cells.specs.Cells.{CellTable, CellsIn}
use Rattle.engine_cells.proofs.Laws.{bound-below, chart_variables_lem}

-- ---- the cells of a variable

pub cell_judged : (s : List ℕ) (e t : ℕ) (st : List ℤ) (at i : ℕ) (b : Bool) → at ≡ cell_at i → b ≡ cell_fits s e t st at → b ≡ cell_fits s e t st (cell_at i)
cell_judged s e t st at i b q h = h ∙ ap (cell_fits s e t st) q

-- ---- the cells of an element, by its row of the table

pub element_is : (s : List ℕ) (st : List ℤ) (e : ℕ) (c : Record) → chart_of s e ≡ Some c → all_below c.f3 (variable_fits s st e c) ≡ element_fits s st e
unfolding element_fits
element_is s st e c p = sym (holds-present (chart_of s e) c _ p)

module _ (s t : List ℕ) (ok : check_of s ≡ Passed) (table : CellTable s t) (st : List ℤ) (whole : length st ≡ state_length s) (e : ℕ) (c : Record) (p : chart_of s e ≡ Some c) (row : ℕ) (at : row ≡ 34 * (e - externals_of s)) where
  pub row_inside : (j : ℕ) → j ≤ c.f3 → row + j < 2176
  row_inside j l = omega (arith, chart_variables_lem s ok e c p, element-number s e c p, bound-below s ok)

  module _ (j : ℕ) (l : j < c.f3) where
    abbrev cell : ℕ
    cell = get_or t (row + j) 0

    abbrev next : ℕ
    next = get_or t (row + (j + 1)) 0

    -- variable j's declaration
    abbrev own : ℕ
    own = (chart_variables c).first + j

    cell_is : cell ≡ first_cell s e + cells_before s c j
    cell_is = ap (λ (r : ℕ). get_or t (r + j) 0) at ∙ table.right e c p j (omega arith)

    next_is_lem : next ≡ first_cell s e + cells_before s c (j + 1)
    next_is_lem = ap (λ (r : ℕ). get_or t (r + (j + 1)) 0) at ∙ table.right e c p (j + 1) (omega arith)

    cells_more : cells_before s c (j + 1) ≡ cells_before s c j + cells_taken s own
    cells_more = rw add-one (cells_next s c j)

    taken_is : next - cell ≡ cells_taken s own
    taken_is = omega (arith, cell_is, next_is_lem, cells_more)

    pub cell_rises : cell ≤ next
    cell_rises = omega (arith, cell_is, next_is_lem, cells_more)

    pub cells_in : CellsIn st cell (next - cell)
    unfolding cell_at state_length place_at
    cells_in =
        let a = cell_is in
        let b = taken_is in
        let v = variable-cells s c j c.f3 l in
        let x = element-cells s e c p in
        let m = cells_limit s ok in
        let w = whole in
        record { few = omega arith; inside = omega arith }

    pub variable_judged : (k : ℕ) → k ≡ type_at s own → (b : Bool) → b ≡ all_below (next - cell) (λ i. cell_fits s e k st (cell_at (cell + i))) → b ≡ variable_fits s st e c j
    unfolding variable_fits cell_of
    variable_judged k a b h =
        let declared = declared_so_lem s own (λ k. all_below (cells_taken s own) (λ i. cell_fits s e k st (cell_of s e c j i))) (element-declared s ok e c p j l) in
        h ∙ rw (a, taken_is, cell_is) (sym declared)
