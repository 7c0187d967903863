-- What an expression gives. "Visiting a node adds one step, then its operands go in field order, then its own act."
use Rattle.std.specs.Prelude.{ℕ, zero, suc, ◌+◌, ◌*◌, List, Bool, true, false, not, ltb, eqb, ℤ, pos, nat_abs, ◌+ℤ◌, ◌-ℤ◌, ◌*ℤ◌, Option, Some, None}
use Rattle.std.specs.Int.Signed.{lt_z}
use Rattle.std.specs.Int.{w32}
use Rattle.std.proofs.Common.{to_z}
use Rattle.sheet.specs.declared.Record.{Record}
use Rattle.sheet.specs.All.{◌and◌}
use Rattle.sheet.specs.Names
use Rattle.sheet.specs.Names.{declarations, nodes, declared_type, chart_variables, operator, bool_type, int_type, component_type, port_type, enumerated, is_clock, is_literal}
use Rattle.sheet.specs.Sheet.{record_of}
use Rattle.machine.specs.declared.Value.{Value}
use Rattle.machine.specs.declared.Out.{Out}
use Rattle.machine.specs.declared.Out.TheVariants.{Val, Refused, Stuck}
use Rattle.sheet_rules.specs.Fields.{is_field, declared_so}
use Rattle.sheet_rules.specs.Forms.{Form, literal, read, unary, binary, clock, read_element, skip, assign, external_send, internal_send, arm, clock_act, call, choice, loop, sequence, assign_element, unknown, form_of, Literal, bool, int, member, component, port, self, literal_of, Binary, both, equal, less, plus, minus, times, div, modulo, binary_of}
use Rattle.sheet_rules.specs.Indices.{Index, plain, over, no_index, index_at, is_plain}
use Rattle.sheet_rules.specs.Bindings.{constant_binding, constant_field, constant_of}
use Rattle.sheet_rules.specs.Shape.{variables_at}
use Rattle.sheet_rules.specs.Types.{variable_at, chart_variable_index}
use Rattle.machine_division.specs.Division.{quotient, remainder}
use Rattle.machine.specs.Values.{fits32, is_below, is_zero, same_word, in_type}
use Rattle.machine.specs.State.{cell_of, word_of}

-- ---- how parts follow each other

-- a value goes on; a refusal and stuck are the answer
unfoldable pub and_then : Out → (Value → ℕ → Out) → Out
and_then (Val x l) K = K x l
and_then (Refused n l) K = Refused n l
and_then Stuck K = Stuck

-- a test without which the machine is stuck
unfoldable pub needs : Bool → Out → Out
needs true o = o
needs false o = Stuck

unfoldable pub on_record : Option Record → (Record → Out) → Out
on_record (Some r) K = K r
on_record None K = Stuck

abbrev pub val : ℕ → ℤ → Value
val k z = record { kind = k; word = z }

abbrev pub bool_word : Bool → ℤ
bool_word true = pos 1
bool_word false = pos 0

-- ---- Int: "Int is 32-bit signed", and of a mod b = a − b × (a div b) "only the result must fit"

unfoldable pub int_out : ℤ → ℕ → Out
int_out z l = elim (fits32 z) [ true ↦ Val (val int_type z) l | false ↦ Refused 6 l ]

-- "Int outside 32 bits, or divisor 0" is 6
unfoldable pub dividing : ℤ → ℤ → ℕ → Out
dividing b z l = elim (is_zero b) [ true ↦ Refused 6 l | false ↦ int_out z l ]

-- ---- operators on values

abbrev pub is_one : ℤ → Bool
is_one z = not (is_zero z)

unfoldable pub not_val : Value → ℕ → Out
not_val x l = needs (eqb x.kind bool_type) (Val (val bool_type (bool_word (is_zero x.word))) l)

-- two Ints, without which the machine is stuck
unfoldable pub on_ints : Value → Value → Out → Out
on_ints x y o = needs (eqb x.kind int_type and eqb y.kind int_type) o

unfoldable pub combined : Binary → Value → Value → ℕ → Out
combined both x y l = needs (eqb x.kind bool_type and eqb y.kind bool_type) (Val (val bool_type (bool_word (is_one x.word and is_one y.word))) l)
combined equal x y l = needs (eqb x.kind y.kind) (Val (val bool_type (bool_word (same_word x.word y.word))) l)
combined less x y l = on_ints x y (Val (val bool_type (bool_word (lt_z x.word y.word))) l)
combined plus x y l = on_ints x y (int_out (x.word +ℤ y.word) l)
combined minus x y l = on_ints x y (int_out (x.word -ℤ y.word) l)
combined times x y l = on_ints x y (int_out (x.word *ℤ y.word) l)
combined div x y l = on_ints x y (dividing y.word (quotient x.word y.word) l)
combined modulo x y l = on_ints x y (dividing y.word (remainder x.word y.word) l)

unfoldable pub binary_val : ℕ → Value → Value → ℕ → Out
binary_val op x y l = combined (binary_of op) x y l

-- ---- leaves

-- the value that a literal writes down: 1 Bool; 2 Int, two's complement; 3 member; 4 component; 5 port; 6 self
unfoldable pub written : ℕ → Record → Literal → Value
written e r bool = val bool_type (pos r.f1)
written e r int = val int_type (to_z w32 (r.f1 + 65536 * r.f2))
written e r member = val (enumerated r.f1) (pos r.f2)
written e r component = val component_type (pos r.f1)
written e r port = val port_type (pos r.f1)
written e r self = val component_type (pos e)

unfoldable pub literal_value : ℕ → Record → Value
literal_value e r = written e r (literal_of (operator r))

-- "a value .. lies outside its type": stuck
unfoldable pub within : List ℕ → Value → ℕ → Out
within s x l = needs (in_type s x.kind x.word) (Val x l)

-- Where a body runs: the element, its chart, the number of its first binding record, the body.
pub record Context : Type 0 where
  pub element : ℕ
  pub chart : Record
  pub binding : ℕ
  pub body : Record

-- variable n of the element's chart is there, and its type meets a test
unfoldable pub is_variable : List ℕ → Context → ℕ → (ℕ → Bool) → Bool
is_variable s x n p = ltb n (chart_variables x.chart).count and declared_so s ((chart_variables x.chart).first + n) p

-- the same of a plain variable
unfoldable pub is_plain_variable : List ℕ → Context → ℕ → (ℕ → Bool) → Bool
is_plain_variable s x n p = is_variable s x n p and is_plain (chart_variable_index s x.chart n)

-- a value of a type, where a type is needed
unfoldable pub of_type : ℕ → Value → Out → Out
of_type t x o = needs (eqb x.kind t) o

-- the type of a declaration; without one the machine is stuck
abbrev pub on_type : List ℕ → ℕ → (ℕ → Out) → Out
on_type s d K = on_record (record_of s declarations d) (λ r. K (declared_type r))

-- "Reading a chart parameter doesn't visit its binding's node": the constant in the element's binding, a field from f1 on
unfoldable pub parameter_val : List ℕ → Context → ℕ → ℕ → ℕ → Out
parameter_val s x n t l = needs (is_field (constant_field n)) (on_record (constant_binding s x.binding n) (λ b. on_record (record_of s nodes (constant_of b n)) (λ r. needs (is_literal (operator r)) (of_type t (literal_value x.element r) (within s (literal_value x.element r) l)))))

-- "Parameters and locals together at most 16": a body's variables have that many words
abbrev pub body_words : ℕ
body_words = 16

-- the first word of cell k of the element's variable n
unfoldable pub variable_at_cell : List ℕ → Context → ℕ → ℕ → ℕ
variable_at_cell s x n k = cell_of s x.element x.chart n k

-- Where in a variable an index leads: to one of its cells; out of range, which is 11; or it is no index of it, and the machine is stuck.
pub data Reached : Type 0 where
  inside : ℕ → Reached
  out_of_range : Reached
  unfit : Reached

-- "with an index of the array's index type (Int for a number)"; "11, index outside its number": a value of another type is never outside it
unfoldable pub reached : Index → Value → Reached
reached plain v = unfit
reached (over t n) v = elim (eqb v.kind t) [ true ↦ elim (is_below v.word n) [ true ↦ inside (nat_abs v.word) | false ↦ elim (eqb t int_type) [ true ↦ out_of_range | false ↦ unfit ] ] | false ↦ unfit ]
reached no_index v = unfit

module _ (s : List ℕ) (x : Context) (st : List ℤ) where
  -- "17 gives the clock's running word, 18 its value, 0 when stopped"
  unfoldable pub clock_word : ℕ → ℤ
  clock_word n = elim (is_zero (word_of st (variable_at_cell s x n 0))) [ true ↦ pos 0 | false ↦ word_of st (variable_at_cell s x n 0 + 1) ]

  unfoldable pub clock_val : ℕ → ℕ → ℕ → Out
  clock_val op n l =
      needs (is_plain_variable s x n is_clock)
      (elim (eqb op 17) [ true ↦ within s (val bool_type (word_of st (variable_at_cell s x n 0))) l | false ↦ within s (val int_type (clock_word n)) l ])

  -- a variable of type t, where an index leads
  unfoldable pub element_as : ℕ → ℕ → Reached → ℕ → Out
  element_as n t (inside k) l = within s (val t (word_of st (variable_at_cell s x n k))) l
  element_as n t out_of_range l = Refused 11 l
  element_as n t unfit l = Stuck

  -- "read (19: f1 variable, f2 index)"
  unfoldable pub element_val : ℕ → Value → ℕ → Out
  element_val n i l = needs (ltb n (chart_variables x.chart).count) (on_type s ((chart_variables x.chart).first + n) (λ t. element_as n t (reached (chart_variable_index s x.chart n) i) l))

module _ (s : List ℕ) (x : Context) (st lo : List ℤ) where
  -- f1: 0 chart parameter, 1 chart variable, 2 body parameter or local; f2 its number; t its declared type
  unfoldable pub read_as : ℕ → ℕ → ℕ → ℕ → Out
  read_as place n t l =
      elim (eqb place Names.chart_parameter) [
        | true ↦ parameter_val s x n t l
        | false ↦ elim (eqb place Names.chart_variable) [ true ↦ within s (val t (word_of st (variable_at_cell s x n 0))) l | false ↦ needs (ltb n body_words) (within s (val t (word_of lo n)) l) ]
      ]

  unfoldable pub read_val : ℕ → ℕ → ℕ → Out
  read_val place n l = needs (ltb n (variables_at x.chart x.body place) and is_plain (index_at s (variable_at x.chart x.body place n))) (on_type s (variable_at x.chart x.body place n) (λ t. read_as place n t l))

  -- ---- a node

  -- the act of a node, where f works out the operands
  unfoldable pub eval_in : (ℕ → ℕ → Out) → Record → ℕ → Form → Out
  eval_in f r l literal = within s (literal_value x.element r) l
  eval_in f r l read = read_val r.f1 r.f2 l
  eval_in f r l unary = and_then (f r.f1 l) not_val
  eval_in f r l binary = and_then (f r.f1 l) (λ a l. and_then (f r.f2 l) (λ b l. binary_val (operator r) a b l))
  eval_in f r l clock = clock_val s x st (operator r) r.f1 l
  eval_in f r l read_element = and_then (f r.f2 l) (λ i l. element_val s x st r.f1 i l)
  eval_in f r l skip = Stuck
  eval_in f r l assign = Stuck
  eval_in f r l external_send = Stuck
  eval_in f r l internal_send = Stuck
  eval_in f r l arm = Stuck
  eval_in f r l clock_act = Stuck
  eval_in f r l call = Stuck
  eval_in f r l choice = Stuck
  eval_in f r l loop = Stuck
  eval_in f r l sequence = Stuck
  eval_in f r l assign_element = Stuck
  eval_in f r l unknown = Stuck

  -- "a visit that would pass [the limit] is refused"
  unfoldable pub eval_step : (ℕ → ℕ → Out) → ℕ → ℕ → Out
  eval_step f n zero = Refused 10 0
  eval_step f n (suc l) = on_record (record_of s nodes n) (λ r. eval_in f r l (form_of (operator r)))

module _ (s : List ℕ) (x : Context) (st lo : List ℤ) where
  -- fuel is not the paper's: each visit takes a step, so enough of it makes no difference
  unfoldable pub eval_f : ℕ → ℕ → ℕ → Out
  eval_f zero n l = Stuck
  eval_f (suc k) n l = eval_step s x st lo (eval_f k) n l

  -- what node n gives, with l steps left
  unfoldable pub eval_of : ℕ → ℕ → Out
  eval_of n l = eval_f (suc l) n l
