-- The forms of a node by its operator, which literal or operator on two values it is, and its operands.
use Rattle.std.specs.Prelude.{ℕ, ◌+◌, ◌-◌, List, [], ◌∷◌, true, false, ltb, Option, None}
use Rattle.sheet.specs.declared.Record.{Record}
use Rattle.sheet.specs.Table.{Line, up_to, look_up}
use Rattle.sheet.specs.Names.{names, bodies, operator, data_of, chart_bodies, body_parameters}
use Rattle.sheet.specs.Sheet.{record_of}
use Rattle.sheet_rules.specs.declared.Operands.{Operands}
use Rattle.sheet_rules.specs.Fields.{field_of, number_or0}

pub data Form : Type 0 where
  literal read unary binary clock read_element : Form
  skip assign external_send internal_send arm clock_act call choice loop sequence assign_element : Form
  unknown : Form

-- 1 to 6 literals, 7 read, 8 not, 9 to 16 on two values, 17 and 18 on a clock, 19 read an element; 32 skip, 33 assign, 34 and 35 sends, 36 and 37 arming, 38 start and 39 stop, 40 call, 41 if, 42 while, 43 sequence, 44 assign an element
abbrev pub form_table : List (Line Form)
form_table =
    up_to 0 unknown
    ∷ up_to 6 literal
    ∷ up_to 7 read
    ∷ up_to 8 unary
    ∷ up_to 16 binary
    ∷ up_to 18 clock
    ∷ up_to 19 read_element
    ∷ up_to 31 unknown
    ∷ up_to 32 skip
    ∷ up_to 33 assign
    ∷ up_to 34 external_send
    ∷ up_to 35 internal_send
    ∷ up_to 37 arm
    ∷ up_to 39 clock_act
    ∷ up_to 40 call
    ∷ up_to 41 choice
    ∷ up_to 42 loop
    ∷ up_to 43 sequence
    ∷ up_to 44 assign_element
    ∷ []

unfoldable pub form_of : ℕ → Form
form_of op = look_up form_table unknown op

-- ---- literals: 1 Bool, 2 Int, 3 member, 4 component, 5 port, 6 self

pub data Literal : Type 0 where
  bool int member component port self : Literal

-- only operators 1 to 6 are asked for
abbrev pub literal_table : List (Line Literal)
literal_table =
    up_to 0 self
    ∷ up_to 1 bool
    ∷ up_to 2 int
    ∷ up_to 3 member
    ∷ up_to 4 component
    ∷ up_to 5 port
    ∷ []

unfoldable pub literal_of : ℕ → Literal
literal_of op = look_up literal_table self op

-- ---- operators on two values: 9 and, 10 equal, 11 less, 12 plus, 13 minus, 14 times, 15 div, 16 mod

pub data Binary : Type 0 where
  both equal less plus minus times div modulo : Binary

-- only operators 9 to 16 are asked for
abbrev pub binary_table : List (Line Binary)
binary_table =
    up_to 8 modulo
    ∷ up_to 9 both
    ∷ up_to 10 equal
    ∷ up_to 11 less
    ∷ up_to 12 plus
    ∷ up_to 13 minus
    ∷ up_to 14 times
    ∷ up_to 15 div
    ∷ []

unfoldable pub binary_of : ℕ → Binary
binary_of op = look_up binary_table modulo op

-- ---- operands: some fields side by side, then data fields from f4 on

abbrev pub operands : ℕ → ℕ → ℕ → Operands
operands first count tail = record { first = first; count = count; tail = tail }

-- "A send, arming or call uses as many data fields as its name or called body has parameters."
unfoldable pub name_data : List ℕ → Record → ℕ
name_data s r = number_or0 (record_of s names r.f3) (λ n. (data_of n).count)

-- the body that a call in chart c names: "body counted from the chart's first"
unfoldable pub called_body : List ℕ → Record → Record → Option Record
called_body s c r = elim (ltb r.f1 (chart_bodies c).count) [ true ↦ record_of s bodies ((chart_bodies c).first + r.f1) | false ↦ None ]

unfoldable pub call_data : List ℕ → Record → Record → ℕ
call_data s c r = number_or0 (called_body s c r) (λ b. (body_parameters b).count)

-- the operands of a node of chart c
unfoldable pub operands_in : List ℕ → Record → Record → Form → Operands
operands_in s c r literal = operands 1 0 0
operands_in s c r read = operands 1 0 0
operands_in s c r unary = operands 1 1 0
operands_in s c r binary = operands 1 2 0
operands_in s c r clock = operands 1 0 0
operands_in s c r read_element = operands 2 1 0
operands_in s c r skip = operands 1 0 0
operands_in s c r assign = operands 3 1 0
operands_in s c r external_send = operands 1 2 (name_data s r)
operands_in s c r internal_send = operands 1 0 (name_data s r)
operands_in s c r arm = operands 2 1 (name_data s r)
operands_in s c r clock_act = operands 1 0 0
operands_in s c r call = operands 1 0 (call_data s c r)
operands_in s c r choice = operands 1 3 0
operands_in s c r loop = operands 1 2 0
operands_in s c r sequence = operands 1 2 0
operands_in s c r assign_element = operands 2 2 0
operands_in s c r unknown = operands 1 0 0

unfoldable pub operands_of : List ℕ → Record → Record → Operands
operands_of s c r = operands_in s c r (form_of (operator r))

abbrev pub operand_count : Operands → ℕ
operand_count o = o.count + o.tail

-- the operand numbered j, "in field order"
unfoldable pub operand_at : Record → Operands → ℕ → ℕ
operand_at r o j = elim (ltb j o.count) [ true ↦ field_of r (o.first + j) | false ↦ field_of r (4 + (j - o.count)) ]
