-- Which records bind an element, and where in them the constant for a parameter stands. "An element whose chart has eight or more is bound by two successive records: the first as today, the second with f0 = 65,535 and the eighth parameter onward in f1 to f7."
use Rattle.std.specs.Prelude.{ℕ, zero, suc, ◌+◌, ◌-◌, List, true, false, ltb, leb, Option, Some, None}
use Rattle.sheet.specs.declared.Record.{Record}
use Rattle.sheet.specs.Names.{charts, bindings, chart_parameters, bound_chart}
use Rattle.sheet.specs.Sheet.{count_of, record_of}
use Rattle.sheet_rules.specs.Fields.{field_of, number_or0, count_below}

-- ---- records

-- how many constants a record holds: f1 to f7
abbrev pub constants_in_record : ℕ
constants_in_record = 7

-- how many records bind an element whose chart has n parameters
unfoldable pub records_for : ℕ → ℕ
records_for n = elim (leb n constants_in_record) [ true ↦ 1 | false ↦ 2 ]

-- the chart that record k names
unfoldable pub chart_bound : List ℕ → ℕ → Option Record
chart_bound s k = elim (record_of s bindings k) [ Some b ↦ record_of s charts (bound_chart b) | None ↦ None ]

-- the number of the record behind those of the element whose first one is k; one that names no chart stands alone
unfoldable pub behind : List ℕ → ℕ → ℕ
behind s k = k + records_for (number_or0 (chart_bound s k) (λ c. (chart_parameters c).count))

-- the first record of element i, counted from the first bound one: the one behind those of the elements before it
unfoldable pub first_binding : List ℕ → ℕ → ℕ
first_binding s zero = 0
first_binding s (suc i) = behind s (first_binding s i)

-- how many elements the section binds: those whose first record stands in it
unfoldable pub elements_bound_in : List ℕ → ℕ
elements_bound_in s = count_below (count_of s bindings) (λ i. ltb (first_binding s i) (count_of s bindings))

-- ---- constants

-- the record with the constant for parameter j, where the element's first one is k
unfoldable pub constant_record : ℕ → ℕ → ℕ
constant_record k j = elim (ltb j constants_in_record) [ true ↦ k | false ↦ k + 1 ]

abbrev pub constant_binding : List ℕ → ℕ → ℕ → Option Record
constant_binding s k j = record_of s bindings (constant_record k j)

-- the constant's field in that record, from f1 on
unfoldable pub constant_field : ℕ → ℕ
constant_field j = elim (ltb j constants_in_record) [ true ↦ 1 + j | false ↦ 1 + (j - constants_in_record) ]

-- the constant for parameter j in the record that has it: the number of a node
abbrev pub constant_of : Record → ℕ → ℕ
constant_of b j = field_of b (constant_field j)
