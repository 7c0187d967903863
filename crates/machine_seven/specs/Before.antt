-- The machine's definitions that changed with M-105 and that a stored sheet can be compared by: record i of section 7 bound element i, and a run held its element's binding record.
-- Binding, chart and first cell have the text that they had before. Reading has it but for one thing: the record b that a run held is a parameter here, since a context no longer has it.
-- They stand over today's definitions of everything else (values, words of the state, types ..), so a comparison with them says nothing about those.
use Rattle.std.specs.Prelude.{ℕ, ◌+◌, ◌-◌, List, true, false, ltb, eqb, ℤ, Option, Some, None}
use Rattle.sheet.specs.declared.Record.{Record}
use Rattle.sheet.specs.All.{◌and◌}
use Rattle.sheet.specs.Names
use Rattle.sheet.specs.Names.{charts, nodes, bindings, bound_chart, operator, is_literal}
use Rattle.sheet.specs.Sheet.{record_of}
use Rattle.sheet_rules.specs.Fields.{is_field, sum_below, externals_of}
use Rattle.sheet_rules.specs.Indices.{index_at, is_plain}
use Rattle.sheet_rules.specs.Shape.{variables_at}
use Rattle.sheet_rules.specs.Types.{variable_at}
use Rattle.sheet_seven.specs.Before.{constant_of, cells_bound}
use Rattle.machine.specs.declared.Out.{Out}
use Rattle.machine.specs.Values.{is_bound}
use Rattle.machine.specs.State.{word_of}
use Rattle.machine.specs.Eval.{Context, needs, on_record, val, literal_value, within, of_type, on_type, body_words, variable_at_cell}

unfoldable pub binding_of : List ℕ → ℕ → Option Record
binding_of s e = elim (is_bound s e) [ true ↦ record_of s bindings (e - externals_of s) | false ↦ None ]

unfoldable pub chart_of : List ℕ → ℕ → Option Record
chart_of s e = elim (binding_of s e) [ Some b ↦ record_of s charts (bound_chart b) | None ↦ None ]

unfoldable pub first_cell : List ℕ → ℕ → ℕ
first_cell s e = sum_below (e - externals_of s) (cells_bound s)

-- what reading gives, where b is the binding record that the run held
module _ (s : List ℕ) (x : Context) (b : Record) where
  unfoldable pub parameter_val : ℕ → ℕ → ℕ → Out
  parameter_val n t l = needs (is_field (1 + n)) (on_record (record_of s nodes (constant_of b n)) (λ r. needs (is_literal (operator r)) (of_type t (literal_value x.element r) (within s (literal_value x.element r) l))))

  module _ (st lo : List ℤ) where
    unfoldable pub read_as : ℕ → ℕ → ℕ → ℕ → Out
    read_as place n t l =
        elim (eqb place Names.chart_parameter) [
          | true ↦ parameter_val n t l
          | false ↦ elim (eqb place Names.chart_variable) [ true ↦ within s (val t (word_of st (variable_at_cell s x n 0))) l | false ↦ needs (ltb n body_words) (within s (val t (word_of lo n)) l) ]
        ]

    unfoldable pub read_val : ℕ → ℕ → ℕ → Out
    read_val place n l = needs (ltb n (variables_at x.chart x.body place) and is_plain (index_at s (variable_at x.chart x.body place n))) (on_type s (variable_at x.chart x.body place n) (λ t. read_as place n t l))
