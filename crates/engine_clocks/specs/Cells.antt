-- What is known of the cells of an element.
use Rattle.std.specs.Prelude.{ℕ, ◌+◌, ◌<◌, ◌≤◌, ◌≡◌, List, true, length, ℤ}
use Rattle.sheet.specs.declared.Record.{Record}
use Rattle.sheet.specs.Names.{declarations, chart_variables, is_clock}
use Rattle.sheet.specs.Sheet.{count_of}
use Rattle.sheet_rules.specs.Fields.{type_at}
use Rattle.sheet_rules.specs.Indices.{cells_taken, cells_before}
use Rattle.sheet_rules.specs.Shape.{cells_of}
use Rattle.machine.specs.Values.{first_cell}
use Rattle.machine.specs.State.{cell_at, state_length, counted}
use Rattle.machine.specs.Valid.{cell_fits}

-- in a state as long as the sheet's a cell of element e that holds, if it is a clock's, what its type allows
pub record Cell (s : List ℕ) (e t : ℕ) (st : List ℤ) (i : ℕ) : Type 0 where
  pub whole : length st ≡ state_length s
  pub head : counted st ≡ true
  pub inside : i ≤ cells_of s
  pub clock : is_clock t ≡ true → (i < cells_of s) × (cell_fits s e t st (cell_at i) ≡ true)

-- .. and all cells of element e with chart c; its variables are declared, and its clocks take one cell each
pub record Cells (s : List ℕ) (e : ℕ) (c : Record) (st : List ℤ) : Type 0 where
  pub whole : length st ≡ state_length s
  pub head : counted st ≡ true
  pub inside : first_cell s e + cells_before s c (chart_variables c).count ≤ cells_of s
  pub declared : (j : ℕ) → j < (chart_variables c).count → (chart_variables c).first + j < count_of s declarations
  pub plain : (j : ℕ) → is_clock (type_at s ((chart_variables c).first + j)) ≡ true → cells_taken s ((chart_variables c).first + j) ≡ 1
  pub clocks : (j : ℕ) → j < (chart_variables c).count → is_clock (type_at s ((chart_variables c).first + j)) ≡ true → cell_fits s e (type_at s ((chart_variables c).first + j)) st (cell_at (first_cell s e + cells_before s c j)) ≡ true
