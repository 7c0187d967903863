-- Where the cells of variables begin and where an element's binding stands, as numbers in a table, so that they are found without a search.
use Rattle.std.specs.Prelude.{ℕ, ◌+◌, ◌*◌, ◌-◌, ◌<◌, ◌≤◌, ◌≡◌, List, length, get_or, Some, ℤ}
use Rattle.sheet.specs.declared.Record.{Record}
use Rattle.sheet.specs.Names.{charts, chart_variables}
use Rattle.sheet.specs.Sheet.{record_of}
use Rattle.sheet_rules.specs.Fields.{externals_of}
use Rattle.sheet_rules.specs.Indices.{cells_before}
use Rattle.sheet_rules.specs.Shape.{most_cells}
use Rattle.machine.specs.State.{cell_at}
use Rattle.machine.specs.Values.{binding_at, chart_of, first_cell}

-- A row of 34 numbers for each element: the first cells of its variables, "up to 32" in a chart, and the cell behind the
-- last one's; then the number of its first binding record.
pub record CellTable (s t : List ℕ) : Type 0 where
  pub size : length t ≡ 2176
  pub right : (e : ℕ) (c : Record) → chart_of s e ≡ Some c → (n : ℕ) → n ≤ (chart_variables c).count → get_or t (34 * (e - externals_of s) + n) 0 ≡ first_cell s e + cells_before s c n
  pub binding : (e : ℕ) (c : Record) → chart_of s e ≡ Some c → get_or t (34 * (e - externals_of s) + 33) 0 ≡ binding_at s e

-- Where the cells of chart c's first n variables begin was entered from place `at` on, the first one's at a given cell;
-- as many as it has and one more are all of a row but the binding record. What stands before stays.
pub record Row (s : List ℕ) (c : Record) (at cell n : ℕ) (t t' : List ℕ) : Type 0 where
  pub size : length t' ≡ 2176
  pub new : (m : ℕ) → m < n → get_or t' (at + m) 0 ≡ cell + cells_before s c m
  pub old : (m : ℕ) → m < at → get_or t' m 0 ≡ get_or t m 0

-- the chart of element e is c, number n of the charts
pub record ChartAt (s : List ℕ) (e n : ℕ) (c : Record) : Type 0 where
  pub there : record_of s charts n ≡ Some c
  pub bound : chart_of s e ≡ Some c

-- n cells, from a cell on, are some of the 512 that there can be, and lie in the state
pub record CellsIn (st : List ℤ) (cell n : ℕ) : Type 0 where
  pub few : cell + n ≤ most_cells
  pub inside : cell_at (cell + n) ≤ length st
