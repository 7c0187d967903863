-- Where a body runs, as 38 numbers: the element, its first binding record's number, its chart's, its chart's first body's, the body's; then the first cell of each of its chart's variables, and one behind the last of them.
use Rattle.std.specs.Prelude.{ℕ, ◌+◌, ◌-◌, ◌<◌, ◌≤◌, ◌≡◌, List, true, false, length, get_or, ℤ, nat_abs, Option, Some, None}
use Rattle.sheet_rules.specs.Shape.{most_cells}
use Rattle.machine.specs.Values.{is_below}
use Rattle.machine.specs.State.{cell_at}

abbrev pub element_in : List ℕ → ℕ
element_in w = get_or w 0 0

abbrev pub binding_in : List ℕ → ℕ
binding_in w = get_or w 1 0

abbrev pub chart_in : List ℕ → ℕ
chart_in w = get_or w 2 0

abbrev pub first_body_in : List ℕ → ℕ
first_body_in w = get_or w 3 0

abbrev pub body_in : List ℕ → ℕ
body_in w = get_or w 4 0

-- the first cell of variable n
abbrev pub cell_in : List ℕ → ℕ → ℕ
cell_in w n = get_or w (5 + n) 0

-- variable n has the cells from its first one on and before the next variable's: "the 512 counts cells"
pub record Spans (w : List ℕ) (n : ℕ) : Type 0 where
  pub whole : length w ≡ 38
  pub number : n < 32
  pub rise : cell_in w n ≤ cell_in w (n + 1)
  pub few : cell_in w (n + 1) ≤ most_cells

-- where index i leads in variable n
unfoldable pub leads_to : List ℕ → ℕ → ℤ → Option ℕ
leads_to w n i = elim (is_below i (cell_in w (n + 1) - cell_in w n)) [ true ↦ Some (cell_at (cell_in w n + nat_abs i)) | false ↦ None ]
