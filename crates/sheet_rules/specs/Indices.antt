-- Array variables: the index of a declaration, the cells that it takes, and where the cells of a chart's variables begin.
use Rattle.std.specs.Prelude.{ℕ, ◌+◌, ◌-◌, List, [], ◌∷◌, Bool, true, false, Some, None}
use Rattle.sheet.specs.declared.Record.{Record}
use Rattle.sheet.specs.Table.{Line, up_to, look_up}
use Rattle.sheet.specs.Names.{declarations, declared_index, chart_variables, bool_type, int_type, component_type, port_type}
use Rattle.sheet.specs.Sheet.{record_of}
use Rattle.sheet_rules.specs.Fields.{sum_below, components_of, ports_of, members_of}

-- none, for a plain variable; an array over a type's values or a number's, and how many there are; or no index at all
pub data Index : Type 0 where
  plain : Index
  over : ℕ → ℕ → Index
  no_index : Index

-- "1 Bool, 2 Component, 3 Port, 8+k enumerated type k, 60,000+n a number; 0 stays a plain variable": a data type has its values, "a whole number n from 1 to 64 meaning indices 0 to n − 1" has Ints
abbrev pub index_table : List ℕ → ℕ → List (Line Index)
index_table s i =
    up_to 0 plain
    ∷ up_to 1 (over bool_type 2)
    ∷ up_to 2 (over component_type (components_of s))
    ∷ up_to 3 (over port_type (ports_of s))
    ∷ up_to 7 no_index
    ∷ up_to 60000 (over i (members_of s (i - 8)))
    ∷ up_to 60064 (over int_type (i - 60000))
    ∷ []

unfoldable pub index_of : List ℕ → ℕ → Index
index_of s i = look_up (index_table s i) no_index i

-- the index of declaration d
unfoldable pub index_at : List ℕ → ℕ → Index
index_at s d = elim (record_of s declarations d) [ Some r ↦ index_of s (declared_index r) | None ↦ no_index ]

unfoldable pub is_plain : Index → Bool
is_plain plain = true
is_plain (over t n) = false
is_plain no_index = false

-- "An array takes one cell of 8 words per index in order"; any other variable takes one
unfoldable pub cells_by : Index → ℕ
cells_by plain = 1
cells_by (over t n) = n
cells_by no_index = 1

-- how many cells declaration d takes
unfoldable pub cells_taken : List ℕ → ℕ → ℕ
cells_taken s d = cells_by (index_at s d)

-- where the cells of variable n of chart c begin, counted from its element's first: behind those of the variables before it
unfoldable pub cells_before : List ℕ → Record → ℕ → ℕ
cells_before s c n = sum_below n (λ j. cells_taken s ((chart_variables c).first + j))
