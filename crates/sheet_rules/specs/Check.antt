-- What the checker passes: 0, or 1 for the shape, before 2 for a static rule.
use Rattle.std.specs.Prelude.{ℕ, List, Bool, true, false, leb, eqb}
use Rattle.sheet.specs.All.{◌and◌, all_below}
use Rattle.sheet.specs.Names.{head, charts}
use Rattle.sheet.specs.Sheet.{count_of, directory_right, record_of}
use Rattle.sheet_rules.specs.declared.Checked.{Checked}
use Rattle.sheet_rules.specs.declared.Checked.TheVariants.{Passed, Shape, Static}
use Rattle.sheet_rules.specs.Fields.{holds}
use Rattle.sheet_rules.specs.Shape.{most_cells, section_shape, bodies_covered, elements_bound, cells_of, trees_shape}
use Rattle.sheet_rules.specs.Uses.{used_once}
use Rattle.sheet_rules.specs.Static.{static}

-- the trees of every chart's bodies
unfoldable pub nodes_shape : List ℕ → Bool
nodes_shape s = all_below (count_of s charts) (λ k. holds (record_of s charts k) (trees_shape s))

unfoldable pub sections_shape : List ℕ → Bool
sections_shape s = all_below 8 (section_shape s)

-- "the shape above, in which everything that a field numbers exists", where it is given whether each node is used once
unfoldable pub shape_with : Bool → List ℕ → Bool
shape_with once s =
    directory_right s
    and eqb (count_of s head) 1
    and sections_shape s
    and bodies_covered s
    and elements_bound s
    and leb (cells_of s) most_cells
    and once
    and nodes_shape s

unfoldable pub shape : List ℕ → Bool
shape s = shape_with (used_once s) s

-- "a sheet otherwise in shape", however often its nodes are used
unfoldable pub otherwise_in_shape : List ℕ → Bool
otherwise_in_shape s = shape_with true s

unfoldable pub check_of : List ℕ → Checked
check_of s = elim (shape s) [ true ↦ elim (static s) [ true ↦ Passed | false ↦ Static ] | false ↦ Shape ]

-- the paper's number of an answer
abbrev pub check_number : Checked → ℕ
check_number Passed = 0
check_number Shape = 1
check_number Static = 2

-- "Check gives 0, 1, 2": 1 where the sheet hasn't the shape, 2 where it has it and breaks a static rule
unfoldable pub check_call : List ℕ → ℕ
check_call s = elim (shape s) [ true ↦ elim (static s) [ true ↦ 0 | false ↦ 2 ] | false ↦ 1 ]
