-- What a statement does.
use Rattle.std.specs.Prelude.{ℕ, zero, suc, ◌+◌, ◌-◌, List, [], ◌∷◌, Bool, true, false, get_or, set, replicate, ltb, eqb, ℤ, pos, negsuc, Option, Some, None}
use Rattle.std.specs.Int.Signed.{le_z}
use Rattle.sheet.specs.declared.Record.{Record}
use Rattle.sheet.specs.All.{◌and◌, all_below}
use Rattle.sheet.specs.Names
use Rattle.sheet.specs.Names.{names, nodes, data_of, body_parameters, body_locals, root, operator, bool_type, int_type, component_type, port_type, timer_type, timeout_type, is_clock}
use Rattle.sheet.specs.Sheet.{record_of}
use Rattle.machine.specs.declared.Value.{Value}
use Rattle.machine.specs.declared.Out.{Out}
use Rattle.machine.specs.declared.Out.TheVariants as out
use Rattle.machine.specs.declared.Ran.{Ran}
use Rattle.machine.specs.declared.Ran.TheVariants.{Done, Refused, Stuck}
use Rattle.machine.specs.declared.Telegram.{Telegram}
use Rattle.sheet_rules.specs.Fields.{is_field, field_of, declared_so, type_at}
use Rattle.sheet_rules.specs.Forms.{Form, literal, read, unary, binary, clock, read_element, skip, assign, external_send, internal_send, arm, clock_act, call, choice, loop, sequence, assign_element, unknown, form_of, called_body}
use Rattle.sheet_rules.specs.Indices.{index_at, is_plain}
use Rattle.sheet_rules.specs.Shape.{variables_at}
use Rattle.sheet_rules.specs.Types.{variable_at, chart_variable_index, clock_of}
use Rattle.machine.specs.Values.{is_zero, default_of, has_default}
use Rattle.machine.specs.State.{on, off, lost, put_words, appended}
use Rattle.machine.specs.Eval.{Context, is_variable, is_plain_variable, body_words, variable_at_cell, Reached, inside, out_of_range, unfit, reached, eval_of}

-- how a statement ended, and the state and the body's variables then
pub record World : Type 0 where
  pub ran : Ran
  pub st : List ℤ
  pub lo : List ℤ

abbrev pub world : Ran → List ℤ → List ℤ → World
world r st lo = record { ran = r; st = st; lo = lo }

-- ---- how parts follow each other

unfoldable pub go_on : Ran → List ℤ → List ℤ → (ℕ → List ℤ → List ℤ → World) → World
go_on (Done l) st lo K = K l st lo
go_on (Refused n l) st lo K = world (Refused n l) st lo
go_on Stuck st lo K = world Stuck st lo

abbrev pub then_run : World → (ℕ → List ℤ → List ℤ → World) → World
then_run w K = go_on w.ran w.st w.lo K

-- a value goes on; a refusal and stuck end the statement
unfoldable pub then_operand : Out → List ℤ → List ℤ → (Value → ℕ → World) → World
then_operand (out.Val v l) st lo K = K v l
then_operand (out.Refused n l) st lo K = world (Refused n l) st lo
then_operand out.Stuck st lo K = world Stuck st lo

unfoldable pub with_record : Option Record → List ℤ → List ℤ → (Record → World) → World
with_record (Some r) st lo K = K r
with_record None st lo K = world Stuck st lo

unfoldable pub provided : Bool → List ℤ → List ℤ → World → World
provided true st lo w = w
provided false st lo w = world Stuck st lo

-- ---- data: worked out "in field order", then held against declarations

-- the values, with the steps left
pub data Values : Type 0 where
  given : List Value → ℕ → Values
  refused : ℕ → ℕ → Values
  stuck : Values

unfoldable pub before : Value → Values → Values
before v (given vs l) = given (v ∷ vs) l
before v (refused n l) = refused n l
before v stuck = stuck

unfoldable pub next_value : Out → (ℕ → Values) → Values
next_value (out.Val v l) K = before v (K l)
next_value (out.Refused n l) K = refused n l
next_value out.Stuck K = stuck

-- n data of a node from number j on; they stand in the fields from f4 on
unfoldable pub values_from : (ℕ → ℕ → Out) → Record → ℕ → ℕ → ℕ → Values
values_from f r zero j l = given [] l
values_from f r (suc n) j l = elim (is_field (4 + j)) [ true ↦ next_value (f (field_of r (4 + j)) l) (λ l. values_from f r n (suc j) l) | false ↦ stuck ]

unfoldable pub then_values : Values → List ℤ → List ℤ → (List Value → ℕ → World) → World
then_values (given vs l) st lo K = K vs l
then_values (refused n l) st lo K = world (Refused n l) st lo
then_values stuck st lo K = world Stuck st lo

-- the values are of the types of the declarations from number d on
unfoldable pub are_of : List ℕ → ℕ → List Value → Bool
are_of s d [] = true
are_of s d (v ∷ vs) = declared_so s d (eqb v.kind) and are_of s (suc d) vs

unfoldable pub words_in : List Value → List ℤ
words_in [] = []
words_in (v ∷ vs) = v.word ∷ words_in vs

abbrev pub datum : List ℤ → ℕ → ℤ
datum zs j = get_or zs j (pos 0)

abbrev pub telegram : ℤ → ℤ → ℤ → ℕ → List ℤ → Telegram
telegram sender receiver port name zs = record { sender = sender; receiver = receiver; port = port; name = pos name; d0 = datum zs 0; d1 = datum zs 1; d2 = datum zs 2; d3 = datum zs 3 }

-- ---- the body's variables: parameters from data, then "fresh default locals", which have to be there

unfoldable pub local_at : List ℕ → Record → List ℤ → ℕ → ℤ
local_at s b zs i =
    elim (ltb i (body_parameters b).count) [
      | true ↦ datum zs i
      | false ↦ elim (ltb i ((body_parameters b).count + (body_locals b).count)) [ true ↦ default_of s (type_at s ((body_locals b).first + (i - (body_parameters b).count))) | false ↦ pos 0 ]
    ]

unfoldable pub list_from : ℕ → ℕ → (ℕ → ℤ) → List ℤ
list_from zero i f = []
list_from (suc n) i f = f i ∷ list_from n (suc i) f

unfoldable pub locals_of : List ℕ → Record → List ℤ → List ℤ
locals_of s b zs = list_from body_words 0 (local_at s b zs)

unfoldable pub locals_there : List ℕ → Record → Bool
locals_there s b = all_below (body_locals b).count (λ j. has_default s ((body_locals b).first + j))

-- ---- acts

-- "Sends append"
unfoldable pub append : List ℕ → Telegram → ℕ → List ℤ → List ℤ → World
append s t l st lo = elim (appended s st t) [ on st' ↦ world (Done l) st' lo | off n ↦ world (Refused n l) st lo | lost ↦ world Stuck st lo ]

-- the words of an armed clock; "period below 1": 7. "Arming a Timeout sets its value to the period, a Cycler's to 0"
unfoldable pub armed : ℕ → ℕ → ℤ → ℕ → List ℤ → ℕ → List ℤ → List ℤ → World
armed cell t period name zs l st lo =
    elim (le_z (pos 1) period) [
      | true ↦ world (Done l) (put_words st cell (pos 1 ∷ elim (eqb t timeout_type) [ true ↦ period | false ↦ pos 0 ] ∷ period ∷ pos name ∷ datum zs 0 ∷ datum zs 1 ∷ datum zs 2 ∷ datum zs 3 ∷ [])) lo
      | false ↦ world (Refused 7 l) st lo
    ]

-- "starting a Timer sets 0"; a stopped clock is all zero
unfoldable pub clock_set : ℕ → ℤ → ℕ → List ℤ → List ℤ → World
clock_set cell running l st lo = world (Done l) (put_words st cell (running ∷ replicate 7 (pos 0))) lo

-- "up to 16 calls may be open"
abbrev pub open_calls : ℕ
open_calls = 16

-- open calls, the context, node, steps left, state, body's variables
abbrev pub Runs : Type 0
Runs = ℕ → Context → ℕ → ℕ → List ℤ → List ℤ → World

-- the steps left fall
unfoldable pub fewer : ℕ → Runs → Runs
fewer left f depth x n l st lo = elim (ltb l left) [ true ↦ f depth x n l st lo | false ↦ world Stuck st lo ]

abbrev pub in_body : Context → Record → Context
in_body x b = record { element = x.element; chart = x.chart; binding = x.binding; body = b }

module _ (s : List ℕ) (x : Context) where
  unfoldable pub assigned : ℕ → ℕ → ℤ → ℕ → List ℤ → List ℤ → World
  assigned place n z l st lo =
      elim (eqb place Names.chart_variable) [
        | true ↦ world (Done l) (set st (variable_at_cell s x n 0) z) lo
        | false ↦ elim (eqb place Names.body_variable) [ true ↦ world (Done l) st (set lo n z) | false ↦ world Stuck st lo ]
      ]

  -- the body has plain variable n of a place, and it is of type t
  unfoldable pub has_variable : ℕ → ℕ → ℕ → Bool
  has_variable place n t =
      ltb n (variables_at x.chart x.body place)
      and elim (eqb place Names.body_variable) [ true ↦ ltb n body_words | false ↦ true ]
      and declared_so s (variable_at x.chart x.body place n) (eqb t)
      and is_plain (index_at s (variable_at x.chart x.body place n))

  unfoldable pub assign_of : Record → ℕ → List ℤ → List ℤ → World
  assign_of r l st lo =
      then_operand (eval_of s x st lo r.f3 l) st lo (λ v l.
      provided (has_variable r.f1 r.f2 v.kind) st lo
      (assigned r.f1 r.f2 v.word l st lo))

  -- a value to a variable, where an index leads
  unfoldable pub element_assigned : ℕ → Reached → ℤ → ℕ → List ℤ → List ℤ → World
  element_assigned n (inside k) z l st lo = world (Done l) (set st (variable_at_cell s x n k) z) lo
  element_assigned n out_of_range z l st lo = world (Refused 11 l) st lo
  element_assigned n unfit z l st lo = world Stuck st lo

  -- "assign (44: f1 variable, f2 index, f3 value) an element"
  unfoldable pub assign_element_of : Record → ℕ → List ℤ → List ℤ → World
  assign_element_of r l st lo =
      then_operand (eval_of s x st lo r.f2 l) st lo (λ i l.
      then_operand (eval_of s x st lo r.f3 l) st lo (λ value l.
      provided (is_variable s x r.f1 (eqb value.kind)) st lo
      (element_assigned r.f1 (reached (chart_variable_index s x.chart r.f1) i) value.word l st lo)))

  -- the data that a node hands to a name: as many as the name has
  unfoldable pub name_values : Record → Record → ℕ → List ℤ → List ℤ → Values
  name_values n r l st lo = values_from (eval_of s x st lo) r (data_of n).count 0 l

  unfoldable pub external_send_of : Record → ℕ → List ℤ → List ℤ → World
  external_send_of r l st lo =
      then_operand (eval_of s x st lo r.f1 l) st lo (λ receiver l.
      then_operand (eval_of s x st lo r.f2 l) st lo (λ port l.
      with_record (record_of s names r.f3) st lo (λ n.
      then_values (name_values n r l st lo) st lo (λ vs l.
      provided (eqb receiver.kind component_type and eqb port.kind port_type and are_of s (data_of n).first vs) st lo
      (append s (telegram (pos x.element) receiver.word port.word r.f3 (words_in vs)) l st lo)))))

  unfoldable pub internal_send_of : Record → ℕ → List ℤ → List ℤ → World
  internal_send_of r l st lo =
      with_record (record_of s names r.f3) st lo (λ n.
      then_values (name_values n r l st lo) st lo (λ vs l.
      provided (are_of s (data_of n).first vs) st lo
      (append s (telegram (pos x.element) (pos x.element) (negsuc 0) r.f3 (words_in vs)) l st lo)))

  -- 36 arms a Timeout, 37 a Cycler
  unfoldable pub arm_of : Record → ℕ → List ℤ → List ℤ → World
  arm_of r l st lo =
      then_operand (eval_of s x st lo r.f2 l) st lo (λ period l.
      with_record (record_of s names r.f3) st lo (λ n.
      then_values (name_values n r l st lo) st lo (λ vs l.
      provided (is_plain_variable s x r.f1 (eqb (clock_of (operator r))) and eqb period.kind int_type and are_of s (data_of n).first vs) st lo
      (armed (variable_at_cell s x r.f1 0) (clock_of (operator r)) period.word r.f3 (words_in vs) l st lo))))

  -- 38 start Timer, 39 stop any clock
  unfoldable pub clock_act_of : Record → ℕ → List ℤ → List ℤ → World
  clock_act_of r l st lo =
      elim (eqb (operator r) 38) [
        | true ↦ provided (is_plain_variable s x r.f1 (eqb timer_type)) st lo (clock_set (variable_at_cell s x r.f1 0) (pos 1) l st lo)
        | false ↦ provided (is_plain_variable s x r.f1 is_clock) st lo (clock_set (variable_at_cell s x r.f1 0) (pos 0) l st lo)
      ]

  -- "a 17th open call": 9. The called body has variables of its own
  unfoldable pub entered : Runs → ℕ → Record → List ℤ → ℕ → List ℤ → List ℤ → World
  entered f depth b zs l st lo =
      elim (ltb depth open_calls) [
        | true ↦ provided (locals_there s b) st lo (let w = f (depth + 1) (in_body x b) (root b) l st (locals_of s b zs) in world w.ran w.st lo)
        | false ↦ world (Refused 9 l) st lo
      ]

  unfoldable pub call_of : Runs → ℕ → Record → ℕ → List ℤ → List ℤ → World
  call_of f depth r l st lo =
      with_record (called_body s x.chart r) st lo (λ b.
      then_values (values_from (eval_of s x st lo) r (body_parameters b).count 0 l) st lo (λ vs l.
      provided (are_of s (body_parameters b).first vs) st lo
      (entered f depth b (words_in vs) l st lo)))

  -- a condition, and what follows if it holds or not
  unfoldable pub choice_of : ℕ → ℕ → List ℤ → List ℤ → (ℕ → World) → (ℕ → World) → World
  choice_of n l st lo K L = then_operand (eval_of s x st lo n l) st lo (λ v l. provided (eqb v.kind bool_type) st lo (elim (is_zero v.word) [ true ↦ L l | false ↦ K l ]))

  unfoldable pub run_in : Runs → ℕ → ℕ → Record → ℕ → List ℤ → List ℤ → Form → World
  run_in f depth n r l st lo literal = world Stuck st lo
  run_in f depth n r l st lo read = world Stuck st lo
  run_in f depth n r l st lo unary = world Stuck st lo
  run_in f depth n r l st lo binary = world Stuck st lo
  run_in f depth n r l st lo clock = world Stuck st lo
  run_in f depth n r l st lo read_element = world Stuck st lo
  run_in f depth n r l st lo skip = world (Done l) st lo
  run_in f depth n r l st lo assign = assign_of r l st lo
  run_in f depth n r l st lo external_send = external_send_of r l st lo
  run_in f depth n r l st lo internal_send = internal_send_of r l st lo
  run_in f depth n r l st lo arm = arm_of r l st lo
  run_in f depth n r l st lo clock_act = clock_act_of r l st lo
  run_in f depth n r l st lo call = call_of f depth r l st lo
  run_in f depth n r l st lo choice = choice_of r.f1 l st lo (λ l. f depth x r.f2 l st lo) (λ l. f depth x r.f3 l st lo)
  -- "42 is visited anew before each test"
  run_in f depth n r l st lo loop = choice_of r.f1 l st lo (λ l. then_run (f depth x r.f2 l st lo) (λ l st lo. f depth x n l st lo)) (λ l. world (Done l) st lo)
  run_in f depth n r l st lo sequence = then_run (f depth x r.f1 l st lo) (λ l st lo. f depth x r.f2 l st lo)
  run_in f depth n r l st lo assign_element = assign_element_of r l st lo
  run_in f depth n r l st lo unknown = world Stuck st lo

unfoldable pub run_step : List ℕ → Runs → Runs
run_step s f depth x n zero st lo = world (Refused 10 0) st lo
run_step s f depth x n (suc l) st lo = with_record (record_of s nodes n) st lo (λ r. run_in s x f depth n r l st lo (form_of (operator r)))

-- fuel is not the paper's: each visit takes a step, so enough of it makes no difference
unfoldable pub run_f : List ℕ → ℕ → Runs
run_f s zero depth x n left st lo = world Stuck st lo
run_f s (suc k) depth x n left st lo = run_step s (fewer left (run_f s k)) depth x n left st lo

-- what node n does, with that many steps left
unfoldable pub run_of : List ℕ → Runs
run_of s depth x n left st lo = run_f s (suc left) depth x n left st lo
