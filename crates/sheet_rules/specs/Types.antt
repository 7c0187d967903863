-- The type of an expression, and what is a statement, by the static rules. It goes by the same cases as a node's meaning.
use Rattle.std.specs.Prelude.{ℕ, zero, suc, ◌+◌, ◌-◌, List, Bool, true, false, not, ltb, eqb, Option, Some, None}
use Rattle.sheet.specs.declared.Record.{Record}
use Rattle.sheet.specs.declared.Range.{Range}
use Rattle.sheet.specs.All.{◌and◌, all_below}
use Rattle.sheet.specs.Names
use Rattle.sheet.specs.Names.{names, bodies, nodes, data_of, class, external, internal, chart_parameters, chart_variables, chart_bodies, role, internal_reaction, procedure, reaction_name, body_parameters, body_locals, operator, bool_type, int_type, component_type, port_type, timer_type, timeout_type, cycler_type, enumerated, is_clock}
use Rattle.sheet.specs.Sheet.{record_of}
use Rattle.sheet_rules.specs.declared.Typed.{Typed}
use Rattle.sheet_rules.specs.declared.Typed.TheVariants.{Expression, Statement, Wrong}
use Rattle.sheet_rules.specs.Fields.{field_of, holds, type_at}
use Rattle.sheet_rules.specs.Forms.{Form, literal, read, unary, binary, clock, read_element, skip, assign, external_send, internal_send, arm, clock_act, call, choice, loop, sequence, assign_element, unknown, form_of, Literal, bool, int, member, component, port, self, literal_of, Binary, both, equal, less, plus, minus, times, div, modulo, binary_of, called_body}
use Rattle.sheet_rules.specs.Indices.{Index, plain, over, no_index, index_at, is_plain}

-- ---- tests of what an operand is

unfoldable pub given : Bool → Typed → Typed
given true t = t
given false t = Wrong

unfoldable pub is_of : Typed → ℕ → Bool
is_of (Expression t) u = eqb t u
is_of Statement u = false
is_of Wrong u = false

unfoldable pub is_statement : Typed → Bool
is_statement (Expression t) = false
is_statement Statement = true
is_statement Wrong = false

-- "10 taking two of one data type"
unfoldable pub same_type : Typed → Typed → Bool
same_type (Expression t) u = is_of u t
same_type Statement u = false
same_type Wrong u = false

-- ---- leaves

unfoldable pub written_type : Record → Literal → ℕ
written_type r bool = bool_type
written_type r int = int_type
written_type r member = enumerated r.f1
written_type r component = component_type
written_type r port = port_type
written_type r self = component_type

unfoldable pub literal_type : Record → ℕ
literal_type r = written_type r (literal_of (operator r))

-- the declaration of a variable of body b of chart c: place 0 chart parameter, 1 chart variable, 2 body parameter or local, "parameters first"
unfoldable pub variable_at : Record → Record → ℕ → ℕ → ℕ
variable_at c b place n =
    elim (eqb place Names.chart_parameter) [
      | true ↦ (chart_parameters c).first + n
      | false ↦ elim (eqb place Names.chart_variable) [
        | true ↦ (chart_variables c).first + n
        | false ↦ elim (ltb n (body_parameters b).count) [ true ↦ (body_parameters b).first + n | false ↦ (body_locals b).first + (n - (body_parameters b).count) ]
      ]
    ]

-- ---- operators on two values

-- both operands are Int, and what the operator then is
unfoldable pub of_ints : Typed → Typed → Typed → Typed
of_ints x y t = given (is_of x int_type and is_of y int_type) t

unfoldable pub combined_type : Binary → Typed → Typed → Typed
combined_type both x y = given (is_of x bool_type and is_of y bool_type) (Expression bool_type)
combined_type equal x y = given (same_type x y) (Expression bool_type)
combined_type less x y = of_ints x y (Expression bool_type)
combined_type plus x y = of_ints x y (Expression int_type)
combined_type minus x y = of_ints x y (Expression int_type)
combined_type times x y = of_ints x y (Expression int_type)
combined_type div x y = of_ints x y (Expression int_type)
combined_type modulo x y = of_ints x y (Expression int_type)

unfoldable pub binary_type : ℕ → Typed → Typed → Typed
binary_type op x y = combined_type (binary_of op) x y

-- ---- names, reactions, clocks

unfoldable pub has_class : List ℕ → ℕ → ℕ → Bool
has_class s n k = holds (record_of s names n) (λ r. eqb (class r) k)

-- an internal reaction to name n
abbrev pub reacts_to : ℕ → Record → Bool
reacts_to n b = eqb (role b) internal_reaction and eqb (reaction_name b) n

-- chart c has one
unfoldable pub has_reaction : List ℕ → Record → ℕ → Bool
has_reaction s c n = not (all_below (chart_bodies c).count (λ j. not (holds (record_of s bodies ((chart_bodies c).first + j)) (reacts_to n))))

-- "an internal send or arming names an internal name with a reaction in its own chart"
unfoldable pub internal_name : List ℕ → Record → ℕ → Bool
internal_name s c n = has_class s n internal and has_reaction s c n

-- the data of name n
unfoldable pub name_range : List ℕ → ℕ → Range
name_range s n = elim (record_of s names n) [ Some r ↦ data_of r | None ↦ Names.range 0 0 ]

-- the parameters of a body
unfoldable pub parameters_of : Option Record → Range
parameters_of (Some b) = body_parameters b
parameters_of None = Names.range 0 0

-- "clocks are only armed or started each by its own operator, stopped, or read": 36 arms a Timeout, 37 a Cycler; 38 starts a Timer
unfoldable pub clock_of : ℕ → ℕ
clock_of op = elim (eqb op 36) [ true ↦ timeout_type | false ↦ elim (eqb op 37) [ true ↦ cycler_type | false ↦ timer_type ] ]

-- the type of variable n of chart c
abbrev pub chart_variable_type : List ℕ → Record → ℕ → ℕ
chart_variable_type s c n = type_at s ((chart_variables c).first + n)

-- "data match the name's or procedure's types in order", where f types a node
unfoldable pub data_match : List ℕ → (ℕ → Typed) → Range → Record → Bool
data_match s f g r = all_below g.count (λ j. is_of (f (field_of r (4 + j))) (type_at s (g.first + j)))

-- operands are lower
unfoldable pub lower_type : ℕ → (ℕ → Typed) → ℕ → Typed
lower_type n f m = elim (ltb m n) [ true ↦ f m | false ↦ Wrong ]

-- ---- each form, where x, y, z are what the operands are, and d whether the data match

-- "operators 7 and 33 don't take an array"
unfoldable pub read_type : List ℕ → Record → Record → Record → Typed
read_type s c b r = given (not (is_clock (type_at s (variable_at c b r.f1 r.f2))) and is_plain (index_at s (variable_at c b r.f1 r.f2))) (Expression (type_at s (variable_at c b r.f1 r.f2)))

unfoldable pub not_type : Typed → Typed
not_type x = given (is_of x bool_type) (Expression bool_type)

-- 17 active, 18 value
unfoldable pub clock_type : List ℕ → Record → Record → Typed
clock_type s c r = given (is_clock (chart_variable_type s c r.f1)) (Expression (elim (eqb (operator r) 17) [ true ↦ bool_type | false ↦ int_type ]))

-- "an assignment keeps its variable's type", "chart parameters are never assigned"
unfoldable pub assign_type : List ℕ → Record → Record → Record → Typed → Typed
assign_type s c b r x = given (not (eqb r.f1 Names.chart_parameter) and is_plain (index_at s (variable_at c b r.f1 r.f2)) and is_of x (type_at s (variable_at c b r.f1 r.f2))) Statement

-- "19 and 44 take nothing else, with an index of the array's index type"
unfoldable pub indexed_by : Index → Typed → Bool
indexed_by plain x = false
indexed_by (over t n) x = is_of x t
indexed_by no_index x = false

-- the index of variable n of chart c
abbrev pub chart_variable_index : List ℕ → Record → ℕ → Index
chart_variable_index s c n = index_at s ((chart_variables c).first + n)

unfoldable pub read_element_type : List ℕ → Record → Record → Typed → Typed
read_element_type s c r x = given (indexed_by (chart_variable_index s c r.f1) x) (Expression (chart_variable_type s c r.f1))

unfoldable pub assign_element_type : List ℕ → Record → Record → Typed → Typed → Typed
assign_element_type s c r x y = given (indexed_by (chart_variable_index s c r.f1) x and is_of y (chart_variable_type s c r.f1)) Statement

-- "34 a Component and a Port", "external sends .. use external names"
unfoldable pub external_type : List ℕ → Record → Typed → Typed → Bool → Typed
external_type s r x y d = given (is_of x component_type and is_of y port_type and has_class s r.f3 external and d) Statement

unfoldable pub internal_type : List ℕ → Record → Record → Bool → Typed
internal_type s c r d = given (internal_name s c r.f3 and d) Statement

unfoldable pub arm_type : List ℕ → Record → Record → Typed → Bool → Typed
arm_type s c r x d = given (eqb (chart_variable_type s c r.f1) (clock_of (operator r)) and is_of x int_type and internal_name s c r.f3 and d) Statement

-- 38 start Timer, 39 stop any clock
unfoldable pub clock_act_type : List ℕ → Record → Record → Typed
clock_act_type s c r = given (elim (eqb (operator r) 38) [ true ↦ eqb (chart_variable_type s c r.f1) timer_type | false ↦ is_clock (chart_variable_type s c r.f1) ]) Statement

-- "a call names a procedure"
unfoldable pub call_type : List ℕ → Record → Record → Bool → Typed
call_type s c r d = given (holds (called_body s c r) (λ p. eqb (role p) procedure) and d) Statement

-- "conditions Bool; 41 to 43 hold statements"
unfoldable pub choice_type : Typed → Typed → Typed → Typed
choice_type x y z = given (is_of x bool_type and is_statement y and is_statement z) Statement

unfoldable pub loop_type : Typed → Typed → Typed
loop_type x y = given (is_of x bool_type and is_statement y) Statement

unfoldable pub sequence_type : Typed → Typed → Typed
sequence_type x y = given (is_statement x and is_statement y) Statement

-- ---- a node

module _ (s : List ℕ) (c b : Record) where
  -- what a node is, where f types its operands
  unfoldable pub type_in : (ℕ → Typed) → Record → Form → Typed
  type_in f r literal = Expression (literal_type r)
  type_in f r read = read_type s c b r
  type_in f r unary = not_type (f r.f1)
  type_in f r binary = binary_type (operator r) (f r.f1) (f r.f2)
  type_in f r clock = clock_type s c r
  type_in f r read_element = read_element_type s c r (f r.f2)
  type_in f r skip = Statement
  type_in f r assign = assign_type s c b r (f r.f3)
  type_in f r external_send = external_type s r (f r.f1) (f r.f2) (data_match s f (name_range s r.f3) r)
  type_in f r internal_send = internal_type s c r (data_match s f (name_range s r.f3) r)
  type_in f r arm = arm_type s c r (f r.f2) (data_match s f (name_range s r.f3) r)
  type_in f r clock_act = clock_act_type s c r
  type_in f r call = call_type s c r (data_match s f (parameters_of (called_body s c r)) r)
  type_in f r choice = choice_type (f r.f1) (f r.f2) (f r.f3)
  type_in f r loop = loop_type (f r.f1) (f r.f2)
  type_in f r sequence = sequence_type (f r.f1) (f r.f2)
  type_in f r assign_element = assign_element_type s c r (f r.f2) (f r.f3)
  type_in f r unknown = Wrong

  unfoldable pub type_step : (ℕ → Typed) → ℕ → Typed
  type_step f n = elim (record_of s nodes n) [ Some r ↦ type_in f r (form_of (operator r)) | None ↦ Wrong ]

  unfoldable pub type_f : ℕ → ℕ → Typed
  type_f zero n = Wrong
  type_f (suc k) n = type_step (lower_type n (type_f k)) n

  unfoldable pub type_of : ℕ → Typed
  type_of n = type_f (suc n) n
