-- On any sheet the steps left never grow: what a node gives or does leaves fewer than it was visited with.
use Rattle.std.specs.Prelude.{Option, Some, None}
use Prim.Native.Nat.{ℕ, zero, suc, ◌+◌, ◌≤◌, ◌<◌}
use mathlib.Core.List.{List}
use mathlib.Core.Bool.{Bool, true, false}
use native.Mathlib.Omega.{arith}
use native.Mathlib.Nat.{le_refl, le_trans}
use lib.Dec.{ltb, eqb}
use lib.IntN.{ℤ, pos, ◌+ℤ◌, ◌-ℤ◌, ◌*ℤ◌}
use lib.Signed.{le_z}
use Rattle.sheet.specs.declared.Record.{Record}
use Rattle.sheet.specs.All.{◌and◌}
use Rattle.sheet.specs.Names.{declarations, names, nodes, declared_type, data_of, chart_variables, body_parameters, root, operator, bool_type, int_type, component_type, port_type, timer_type, is_clock, is_literal, chart_parameter, chart_variable, body_variable}
use Rattle.sheet.specs.Sheet.{record_of}
use Rattle.machine.specs.declared.Value.{Value}
use Rattle.machine.specs.declared.Out.{Out}
use Rattle.machine.specs.declared.Out.TheVariants.{Val, Refused, Stuck}
use Rattle.machine.specs.declared.Ran.{Ran}
use Rattle.machine.specs.declared.Ran.TheVariants as ran
use Rattle.machine.specs.declared.Telegram.{Telegram}
use Rattle.sheet_rules.specs.Fields.{is_field, field_of}
use Rattle.sheet_rules.specs.Forms.{Form, literal, read, unary, binary, clock, read_element, skip, assign, external_send, internal_send, arm, clock_act, call, choice, loop, sequence, assign_element, unknown, form_of, called_body, Binary, both, equal, less, plus, minus, times, div, modulo, binary_of}
use Rattle.sheet_rules.specs.Indices.{index_at, is_plain}
use Rattle.sheet_rules.specs.Bindings.{constant_binding, constant_field, constant_of}
use Rattle.sheet_rules.specs.Shape.{variables_at}
use Rattle.sheet_rules.specs.Types.{variable_at, chart_variable_index, clock_of}
use Rattle.machine.specs.Values.{fits32, is_zero, in_type}
use Rattle.machine.specs.State.{Changed, on, off, lost, appended}
use Rattle.machine_division.specs.Division.{quotient, remainder}
use Rattle.machine.specs.Eval.{Context, is_variable, is_plain_variable, Reached, inside, out_of_range, unfit, reached, element_as, element_val, and_then, needs, on_record, int_out, dividing, not_val, on_ints, combined, binary_val, literal_value, within, of_type, body_words, parameter_val, read_as, read_val, clock_val, eval_in, eval_step, eval_f, eval_of}
use Rattle.machine.specs.Run.{World, go_on, then_operand, with_record, provided, Values, given, refused, stuck, before, next_value, values_from, then_values, are_of, words_in, locals_of, locals_there, append, armed, clock_set, Runs, fewer, in_body, assigned, has_variable, assign_of, element_assigned, assign_element_of, name_values, external_send_of, internal_send_of, arm_of, clock_act_of, entered, call_of, choice_of, run_in, run_step, run_f, run_of, world, open_calls}

-- ---- expressions

-- with l steps left before the visit
abbrev pub Within : ℕ → Out → Type 0
Within l (Val v m) = m < l
Within l (Refused k m) = m ≤ l
Within l Stuck = Unit {0}

pub wider : (o : Out) {l l' : ℕ} → Within l o → l ≤ l' → Within l' o
wider (Val v m) p h = le_trans p h
wider (Refused k m) p h = le_trans p h
wider Stuck p h = tt

-- an act with l steps left
next : (l : ℕ) → l ≤ suc l
next l = omega arith

either : (b : Bool) (o o' : Out) (l : ℕ) → Within l o → Within l o' → Within l (elim b [ true ↦ o | false ↦ o' ])
either true o o' l p q = p
either false o o' l p q = q

needs_in : (b : Bool) (o : Out) (l : ℕ) → Within l o → Within l (needs b o)
unfolding needs
needs_in true o l p = p
needs_in false o l p = tt

then_in : (o : Out) (K : Value → ℕ → Out) (l : ℕ) → Within l o → ((v : Value) (m : ℕ) → m < l → Within l (K v m)) → Within l (and_then o K)
unfolding and_then
then_in (Val v m) K l p q = q v m p
then_in (Refused k m) K l p q = p
then_in Stuck K l p q = tt

record_in : (f : Option Record) (K : Record → Out) (l : ℕ) → ((r : Record) → Within l (K r)) → Within l (on_record f K)
unfolding on_record
record_in (Some r) K l p = p r
record_in None K l p = tt

int_in : (z : ℤ) (l : ℕ) → Within (suc l) (int_out z l)
unfolding int_out
int_in z l = either (fits32 z) _ _ (suc l) (le_refl (suc l)) (next l)

dividing_in : (b z : ℤ) (l : ℕ) → Within (suc l) (dividing b z l)
unfolding dividing
dividing_in b z l = either (is_zero b) _ _ (suc l) (next l) (int_in z l)

not_in : (v : Value) (l : ℕ) → Within (suc l) (not_val v l)
unfolding not_val
not_in v l = needs_in (eqb v.kind bool_type) _ (suc l) (le_refl (suc l))

ints_in : (v w : Value) (o : Out) (l : ℕ) → Within l o → Within l (on_ints v w o)
unfolding on_ints
ints_in v w o l h = needs_in (eqb v.kind int_type and eqb w.kind int_type) o l h

combined_in : (b : Binary) (v w : Value) (l : ℕ) → Within (suc l) (combined b v w l)
unfolding combined
combined_in both v w l = needs_in (eqb v.kind bool_type and eqb w.kind bool_type) _ (suc l) (le_refl (suc l))
combined_in equal v w l = needs_in (eqb v.kind w.kind) _ (suc l) (le_refl (suc l))
combined_in less v w l = ints_in v w _ (suc l) (le_refl (suc l))
combined_in plus v w l = ints_in v w _ (suc l) (int_in (v.word +ℤ w.word) l)
combined_in minus v w l = ints_in v w _ (suc l) (int_in (v.word -ℤ w.word) l)
combined_in times v w l = ints_in v w _ (suc l) (int_in (v.word *ℤ w.word) l)
combined_in div v w l = ints_in v w _ (suc l) (dividing_in w.word (quotient v.word w.word) l)
combined_in modulo v w l = ints_in v w _ (suc l) (dividing_in w.word (remainder v.word w.word) l)

binary_in : (op : ℕ) (v w : Value) (l : ℕ) → Within (suc l) (binary_val op v w l)
unfolding binary_val
binary_in op v w l = combined_in (binary_of op) v w l

within_in : (s : List ℕ) (v : Value) (l : ℕ) → Within (suc l) (within s v l)
unfolding within
within_in s v l = needs_in (in_type s v.kind v.word) _ (suc l) (le_refl (suc l))

parameter_in : (s : List ℕ) (x : Context) (n t l : ℕ) → Within (suc l) (parameter_val s x n t l)
unfolding parameter_val of_type
parameter_in s x n t l =
    needs_in (is_field (constant_field n)) _ (suc l)
    (record_in (constant_binding s x.binding n) _ (suc l) (λ b.
    record_in (record_of s nodes (constant_of b n)) _ (suc l) (λ r.
    needs_in (is_literal (operator r)) _ (suc l) (needs_in (eqb (literal_value x.element r).kind t) _ (suc l) (within_in s (literal_value x.element r) l)))))

module _ (s : List ℕ) (x : Context) (st lo : List ℤ) where
  read_in_lem : (place n l : ℕ) → Within (suc l) (read_val s x st lo place n l)
  unfolding read_val read_as
  read_in_lem place n l =
      needs_in (ltb n (variables_at x.chart x.body place) and is_plain (index_at s (variable_at x.chart x.body place n))) _ (suc l)
      (record_in (record_of s declarations (variable_at x.chart x.body place n)) _ (suc l) (λ r.
      either (eqb place chart_parameter) _ _ (suc l) (parameter_in s x n _ l)
      (either (eqb place chart_variable) _ _ (suc l) (within_in s _ l) (needs_in (ltb n body_words) _ (suc l) (within_in s _ l)))))

  clock_in : (op n l : ℕ) → Within (suc l) (clock_val s x st op n l)
  unfolding clock_val
  clock_in op n l =
      needs_in (is_plain_variable s x n is_clock) _ (suc l)
      (either (eqb op 17) _ _ (suc l) (within_in s _ l) (within_in s _ l))

  element_as_in : (n t : ℕ) (i : Reached) (l : ℕ) → Within (suc l) (element_as s x st n t i l)
  unfolding element_as
  element_as_in n t (inside k) l = within_in s _ l
  element_as_in n t out_of_range l = next l
  element_as_in n t unfit l = tt

  element_in_lem : (n : ℕ) (i : Value) (l : ℕ) → Within (suc l) (element_val s x st n i l)
  unfolding element_val
  element_in_lem n i l =
      needs_in (ltb n (chart_variables x.chart).count) _ (suc l)
      (record_in (record_of s declarations ((chart_variables x.chart).first + n)) _ (suc l) (λ r.
      element_as_in n (declared_type r) (reached (chart_variable_index s x.chart n) i) l))

  module _ (f : ℕ → ℕ → Out) (h : (n l : ℕ) → Within l (f n l)) where
    eval_in_in : (r : Record) (l : ℕ) (form : Form) → Within (suc l) (eval_in s x st lo f r l form)
    unfolding eval_in
    eval_in_in r l literal = within_in s (literal_value x.element r) l
    eval_in_in r l read = read_in_lem r.f1 r.f2 l
    eval_in_in r l unary = then_in (f r.f1 l) _ (suc l) (wider (f r.f1 l) (h r.f1 l) (next l)) (λ v m q. wider (not_val v m) (not_in v m) q)
    eval_in_in r l binary =
        then_in (f r.f1 l) _ (suc l) (wider (f r.f1 l) (h r.f1 l) (next l)) (λ v m q.
        then_in (f r.f2 m) _ (suc l) (wider (f r.f2 m) (h r.f2 m) (omega arith)) (λ w m' q'. wider (binary_val (operator r) v w m') (binary_in (operator r) v w m') q'))
    eval_in_in r l clock = clock_in (operator r) r.f1 l
    eval_in_in r l read_element = then_in (f r.f2 l) _ (suc l) (wider (f r.f2 l) (h r.f2 l) (next l)) (λ v m q. wider (element_val s x st r.f1 v m) (element_in_lem r.f1 v m) q)
    eval_in_in r l skip = tt
    eval_in_in r l assign = tt
    eval_in_in r l external_send = tt
    eval_in_in r l internal_send = tt
    eval_in_in r l arm = tt
    eval_in_in r l clock_act = tt
    eval_in_in r l call = tt
    eval_in_in r l choice = tt
    eval_in_in r l loop = tt
    eval_in_in r l sequence = tt
    eval_in_in r l assign_element = tt
    eval_in_in r l unknown = tt

    eval_step_in : (n l : ℕ) → Within l (eval_step s x st lo f n l)
    unfolding eval_step
    eval_step_in n zero = le_refl 0
    eval_step_in n (suc l) = record_in (record_of s nodes n) _ (suc l) (λ r. eval_in_in r l (form_of (operator r)))

  pub eval_f_in : (k n l : ℕ) → Within l (eval_f s x st lo k n l)
  unfolding eval_f
  eval_f_in zero n l = tt
  eval_f_in (suc k) n l = eval_step_in (eval_f s x st lo k) (eval_f_in k) n l

  pub eval_left : (n l : ℕ) → Within l (eval_of s x st lo n l)
  unfolding eval_of
  eval_left n l = eval_f_in (suc l) n l

-- ---- data

abbrev pub ValuesWithin : ℕ → Values → Type 0
ValuesWithin l (given vs m) = m ≤ l
ValuesWithin l (refused k m) = m ≤ l
ValuesWithin l stuck = Unit {0}

either_values : (b : Bool) (d d' : Values) (l : ℕ) → ValuesWithin l d → ValuesWithin l d' → ValuesWithin l (elim b [ true ↦ d | false ↦ d' ])
either_values true d d' l p q = p
either_values false d d' l p q = q

before_in : (v : Value) (d : Values) {m l : ℕ} → ValuesWithin m d → m ≤ l → ValuesWithin l (before v d)
unfolding before
before_in v (given vs m') p h = le_trans p h
before_in v (refused k m') p h = le_trans p h
before_in v stuck p h = tt

next_value_in : (o : Out) (K : ℕ → Values) (l : ℕ) → Within l o → ((m : ℕ) → ValuesWithin m (K m)) → ValuesWithin l (next_value o K)
unfolding next_value
next_value_in (Val v m) K l p q = before_in v (K m) (q m) (omega arith)
next_value_in (Refused k m) K l p q = p
next_value_in Stuck K l p q = tt

values_from_in : (f : ℕ → ℕ → Out) → ((n l : ℕ) → Within l (f n l)) → (r : Record) (n j l : ℕ) → ValuesWithin l (values_from f r n j l)
unfolding values_from
values_from_in f h r zero j l = le_refl l
values_from_in f h r (suc n) j l = either_values (is_field (4 + j)) _ _ l (next_value_in (f (field_of r (4 + j)) l) _ l (h (field_of r (4 + j)) l) (λ m. values_from_in f h r n (suc j) m)) tt

pub values_left_lem : (s : List ℕ) (x : Context) (st lo : List ℤ) (r : Record) (n j l : ℕ) → ValuesWithin l (values_from (eval_of s x st lo) r n j l)
values_left_lem s x st lo r n j l = values_from_in (eval_of s x st lo) (eval_left s x st lo) r n j l

-- ---- statements

-- with l steps left before the visit
abbrev pub RanWithin : ℕ → Ran → Type 0
RanWithin l (ran.Done m) = m < l
RanWithin l (ran.Refused k m) = m ≤ l
RanWithin l ran.Stuck = Unit {0}

pub ran_wider : (o : Ran) {l l' : ℕ} → RanWithin l o → l ≤ l' → RanWithin l' o
ran_wider (ran.Done m) p h = le_trans p h
ran_wider (ran.Refused k m) p h = le_trans p h
ran_wider ran.Stuck p h = tt

either_ran : (b : Bool) (w w' : World) (l : ℕ) → RanWithin l w.ran → RanWithin l w'.ran → RanWithin l (elim b as (λ b. World) [ true ↦ w | false ↦ w' ]).ran
either_ran true w w' l p q = p
either_ran false w w' l p q = q

go_on_in : (o : Ran) (st lo : List ℤ) (K : ℕ → List ℤ → List ℤ → World) (l : ℕ) → RanWithin l o → ((m : ℕ) (st lo : List ℤ) → m < l → RanWithin l (K m st lo).ran) → RanWithin l (go_on o st lo K).ran
unfolding go_on
go_on_in (ran.Done m) st lo K l p q = q m st lo p
go_on_in (ran.Refused k m) st lo K l p q = p
go_on_in ran.Stuck st lo K l p q = tt

-- what follows a value is visited with m steps left at most l
operand_in : (o : Out) (st lo : List ℤ) (K : Value → ℕ → World) (l : ℕ) → Within l o → ((v : Value) (m : ℕ) → m < l → RanWithin l (K v m).ran) → RanWithin l (then_operand o st lo K).ran
unfolding then_operand
operand_in (Val v m) st lo K l p q = q v m p
operand_in (Refused k m) st lo K l p q = p
operand_in Stuck st lo K l p q = tt

then_values_in : (d : Values) (st lo : List ℤ) (K : List Value → ℕ → World) (l : ℕ) {l' : ℕ} → ValuesWithin l d → l ≤ l' → ((vs : List Value) (m : ℕ) → m ≤ l → RanWithin l' (K vs m).ran) → RanWithin l' (then_values d st lo K).ran
unfolding then_values
then_values_in (given vs m) st lo K l p h q = q vs m p
then_values_in (refused k m) st lo K l p h q = le_trans p h
then_values_in stuck st lo K l p h q = tt

with_record_in : (f : Option Record) (st lo : List ℤ) (K : Record → World) (l : ℕ) → ((r : Record) → RanWithin l (K r).ran) → RanWithin l (with_record f st lo K).ran
unfolding with_record
with_record_in (Some r) st lo K l p = p r
with_record_in None st lo K l p = tt

provided_in : (b : Bool) (st lo : List ℤ) (w : World) (l : ℕ) → RanWithin l w.ran → RanWithin l (provided b st lo w).ran
unfolding provided
provided_in true st lo w l p = p
provided_in false st lo w l p = tt

append_in_lem : (s : List ℕ) (t : Telegram) (l : ℕ) (st lo : List ℤ) → RanWithin (suc l) (append s t l st lo).ran
unfolding append
append_in_lem s t l st lo = go (appended s st t)
  where
    go : (r : Changed) → RanWithin (suc l) (elim r as (λ r. World) [ on st' ↦ world (ran.Done l) st' lo | off n ↦ world (ran.Refused n l) st lo | lost ↦ world ran.Stuck st lo ]).ran
    go (on st') = le_refl (suc l)
    go (off n) = next l
    go lost = tt

armed_in : (cell t : ℕ) (period : ℤ) (name : ℕ) (zs : List ℤ) (l : ℕ) (st lo : List ℤ) → RanWithin (suc l) (armed cell t period name zs l st lo).ran
unfolding armed
armed_in cell t period name zs l st lo = either_ran (le_z (pos 1) period) _ _ (suc l) (le_refl (suc l)) (next l)

clock_set_in : (cell : ℕ) (running : ℤ) (l : ℕ) (st lo : List ℤ) → RanWithin (suc l) (clock_set cell running l st lo).ran
unfolding clock_set
clock_set_in cell running l st lo = le_refl (suc l)

module _ (s : List ℕ) (x : Context) where
  assigned_in : (place n : ℕ) (z : ℤ) (l : ℕ) (st lo : List ℤ) → RanWithin (suc l) (assigned s x place n z l st lo).ran
  unfolding assigned
  assigned_in place n z l st lo = either_ran (eqb place chart_variable) _ _ (suc l) (le_refl (suc l)) (either_ran (eqb place body_variable) _ _ (suc l) (le_refl (suc l)) tt)

  -- a value worked out with m steps left, at most l
  from_operand : (n m l : ℕ) (st lo st' lo' : List ℤ) (K : Value → ℕ → World) → m ≤ l → ((v : Value) (m' : ℕ) → m' < l → RanWithin l (K v m').ran) → RanWithin l (then_operand (eval_of s x st lo n m) st' lo' K).ran
  from_operand n m l st lo st' lo' K h q = operand_in (eval_of s x st lo n m) st' lo' K l (wider (eval_of s x st lo n m) (eval_left s x st lo n m) h) q

  from_values : (n r : Record) (m l : ℕ) (st lo : List ℤ) (K : List Value → ℕ → World) → m ≤ l → ((vs : List Value) (m' : ℕ) → m' ≤ m → RanWithin l (K vs m').ran) → RanWithin l (then_values (name_values s x n r m st lo) st lo K).ran
  unfolding name_values
  from_values n r m l st lo K h q = then_values_in (values_from (eval_of s x st lo) r (data_of n).count 0 m) st lo K m (values_left_lem s x st lo r (data_of n).count 0 m) h q

  assign_in : (r : Record) (l : ℕ) (st lo : List ℤ) → RanWithin (suc l) (assign_of s x r l st lo).ran
  unfolding assign_of
  assign_in r l st lo =
      from_operand r.f3 l (suc l) st lo st lo _ (next l) (λ v m q.
      provided_in (has_variable s x r.f1 r.f2 v.kind) st lo _ (suc l)
      (ran_wider (assigned s x r.f1 r.f2 v.word m st lo).ran (assigned_in r.f1 r.f2 v.word m st lo) q))

  element_assigned_in : (n : ℕ) (i : Reached) (z : ℤ) (l : ℕ) (st lo : List ℤ) → RanWithin (suc l) (element_assigned s x n i z l st lo).ran
  unfolding element_assigned
  element_assigned_in n (inside k) z l st lo = le_refl (suc l)
  element_assigned_in n out_of_range z l st lo = next l
  element_assigned_in n unfit z l st lo = tt

  assign_element_in : (r : Record) (l : ℕ) (st lo : List ℤ) → RanWithin (suc l) (assign_element_of s x r l st lo).ran
  unfolding assign_element_of
  assign_element_in r l st lo =
      from_operand r.f2 l (suc l) st lo st lo _ (next l) (λ i m q.
      from_operand r.f3 m (suc l) st lo st lo _ (omega arith) (λ v m' q'.
      provided_in (is_variable s x r.f1 (eqb v.kind)) st lo _ (suc l)
      (ran_wider (element_assigned s x r.f1 _ v.word m' st lo).ran (element_assigned_in r.f1 _ v.word m' st lo) q')))

  external_send_in : (r : Record) (l : ℕ) (st lo : List ℤ) → RanWithin (suc l) (external_send_of s x r l st lo).ran
  unfolding external_send_of
  external_send_in r l st lo =
      from_operand r.f1 l (suc l) st lo st lo _ (next l) (λ receiver m q.
      from_operand r.f2 m (suc l) st lo st lo _ (omega arith) (λ port m' q'.
      with_record_in (record_of s names r.f3) st lo _ (suc l) (λ n.
      from_values n r m' (suc l) st lo _ (omega arith) (λ vs m'' q''.
      provided_in (eqb receiver.kind component_type and eqb port.kind port_type and are_of s (data_of n).first vs) st lo _ (suc l)
      (ran_wider (append s _ m'' st lo).ran (append_in_lem s _ m'' st lo) (omega arith))))))

  internal_send_in : (r : Record) (l : ℕ) (st lo : List ℤ) → RanWithin (suc l) (internal_send_of s x r l st lo).ran
  unfolding internal_send_of
  internal_send_in r l st lo =
      with_record_in (record_of s names r.f3) st lo _ (suc l) (λ n.
      from_values n r l (suc l) st lo _ (next l) (λ vs m q.
      provided_in (are_of s (data_of n).first vs) st lo _ (suc l)
      (ran_wider (append s _ m st lo).ran (append_in_lem s _ m st lo) (omega arith))))

  arm_in : (r : Record) (l : ℕ) (st lo : List ℤ) → RanWithin (suc l) (arm_of s x r l st lo).ran
  unfolding arm_of
  arm_in r l st lo =
      from_operand r.f2 l (suc l) st lo st lo _ (next l) (λ period m q.
      with_record_in (record_of s names r.f3) st lo _ (suc l) (λ n.
      from_values n r m (suc l) st lo _ (omega arith) (λ vs m' q'.
      provided_in (is_plain_variable s x r.f1 (eqb (clock_of (operator r))) and eqb period.kind int_type and are_of s (data_of n).first vs) st lo _ (suc l)
      (ran_wider (armed _ (clock_of (operator r)) period.word r.f3 (words_in vs) m' st lo).ran (armed_in _ (clock_of (operator r)) period.word r.f3 (words_in vs) m' st lo) (omega arith)))))

  clock_act_in : (r : Record) (l : ℕ) (st lo : List ℤ) → RanWithin (suc l) (clock_act_of s x r l st lo).ran
  unfolding clock_act_of
  clock_act_in r l st lo =
      either_ran (eqb (operator r) 38) _ _ (suc l)
      (provided_in (is_plain_variable s x r.f1 (eqb timer_type)) st lo _ (suc l) (clock_set_in _ (pos 1) l st lo))
      (provided_in (is_plain_variable s x r.f1 is_clock) st lo _ (suc l) (clock_set_in _ (pos 0) l st lo))

  choice_in : (n l : ℕ) (st lo : List ℤ) (K L : ℕ → World) → ((m : ℕ) → m ≤ l → RanWithin (suc l) (K m).ran) → ((m : ℕ) → m ≤ l → RanWithin (suc l) (L m).ran) → RanWithin (suc l) (choice_of s x n l st lo K L).ran
  unfolding choice_of
  choice_in n l st lo K L p q = from_operand n l (suc l) st lo st lo _ (next l) (λ v m h. provided_in (eqb v.kind bool_type) st lo _ (suc l) (either_ran (is_zero v.word) _ _ (suc l) (q m (omega arith)) (p m (omega arith))))

  module _ (f : Runs) (h : (depth : ℕ) (x : Context) (n l : ℕ) (st lo : List ℤ) → RanWithin l (f depth x n l st lo).ran) where
    again : (depth : ℕ) (x : Context) (n m l : ℕ) (st lo : List ℤ) → m ≤ l → RanWithin l (f depth x n m st lo).ran
    again depth x n m l st lo q = ran_wider (f depth x n m st lo).ran (h depth x n m st lo) q

    entered_in : (depth : ℕ) (b : Record) (zs : List ℤ) (l : ℕ) (st lo : List ℤ) → RanWithin (suc l) (entered s x f depth b zs l st lo).ran
    unfolding entered
    entered_in depth b zs l st lo = either_ran (ltb depth open_calls) _ _ (suc l) (provided_in (locals_there s b) st lo _ (suc l) (again (depth + 1) (in_body x b) (root b) l (suc l) st (locals_of s b zs) (next l))) (next l)

    call_in_lem : (depth : ℕ) (r : Record) (l : ℕ) (st lo : List ℤ) → RanWithin (suc l) (call_of s x f depth r l st lo).ran
    unfolding call_of
    call_in_lem depth r l st lo =
        with_record_in (called_body s x.chart r) st lo _ (suc l) (λ b.
        then_values_in (values_from (eval_of s x st lo) r (body_parameters b).count 0 l) st lo _ l (values_left_lem s x st lo r (body_parameters b).count 0 l) (next l) (λ vs m q.
        provided_in (are_of s (body_parameters b).first vs) st lo _ (suc l)
        (ran_wider (entered s x f depth b (words_in vs) m st lo).ran (entered_in depth b (words_in vs) m st lo) (omega arith))))

    run_in_in : (depth n : ℕ) (r : Record) (l : ℕ) (st lo : List ℤ) (form : Form) → RanWithin (suc l) (run_in s x f depth n r l st lo form).ran
    unfolding run_in
    run_in_in depth n r l st lo literal = tt
    run_in_in depth n r l st lo read = tt
    run_in_in depth n r l st lo unary = tt
    run_in_in depth n r l st lo binary = tt
    run_in_in depth n r l st lo clock = tt
    run_in_in depth n r l st lo read_element = tt
    run_in_in depth n r l st lo skip = le_refl (suc l)
    run_in_in depth n r l st lo assign = assign_in r l st lo
    run_in_in depth n r l st lo external_send = external_send_in r l st lo
    run_in_in depth n r l st lo internal_send = internal_send_in r l st lo
    run_in_in depth n r l st lo arm = arm_in r l st lo
    run_in_in depth n r l st lo clock_act = clock_act_in r l st lo
    run_in_in depth n r l st lo call = call_in_lem depth r l st lo
    run_in_in depth n r l st lo choice = choice_in r.f1 l st lo _ _ (λ m q. again depth x r.f2 m (suc l) st lo (omega arith)) (λ m q. again depth x r.f3 m (suc l) st lo (omega arith))
    run_in_in depth n r l st lo loop =
        choice_in r.f1 l st lo _ _
        (λ m q. go_on_in (f depth x r.f2 m st lo).ran _ _ _ (suc l) (again depth x r.f2 m (suc l) st lo (omega arith)) (λ m' st lo q'. again depth x n m' (suc l) st lo (omega arith)))
        (λ m q. omega arith)
    run_in_in depth n r l st lo sequence = go_on_in (f depth x r.f1 l st lo).ran _ _ _ (suc l) (again depth x r.f1 l (suc l) st lo (next l)) (λ m st lo q. again depth x r.f2 m (suc l) st lo (omega arith))
    run_in_in depth n r l st lo assign_element = assign_element_in r l st lo
    run_in_in depth n r l st lo unknown = tt

module _ (s : List ℕ) where
  run_step_in : (f : Runs) → ((depth : ℕ) (x : Context) (n l : ℕ) (st lo : List ℤ) → RanWithin l (f depth x n l st lo).ran) → (depth : ℕ) (x : Context) (n l : ℕ) (st lo : List ℤ) → RanWithin l (run_step s f depth x n l st lo).ran
  unfolding run_step
  run_step_in f h depth x n zero st lo = le_refl 0
  run_step_in f h depth x n (suc l) st lo = with_record_in (record_of s nodes n) st lo _ (suc l) (λ r. run_in_in s x f h depth n r l st lo (form_of (operator r)))

  fewer_in : (left : ℕ) (f : Runs) → ((depth : ℕ) (x : Context) (n l : ℕ) (st lo : List ℤ) → RanWithin l (f depth x n l st lo).ran) → (depth : ℕ) (x : Context) (n l : ℕ) (st lo : List ℤ) → RanWithin l (fewer left f depth x n l st lo).ran
  unfolding fewer
  fewer_in left f h depth x n l st lo = either_ran (ltb l left) _ _ l (h depth x n l st lo) tt

  run_f_in : (k depth : ℕ) (x : Context) (n l : ℕ) (st lo : List ℤ) → RanWithin l (run_f s k depth x n l st lo).ran
  unfolding run_f
  run_f_in zero depth x n l st lo = tt
  run_f_in (suc k) depth x n l st lo = run_step_in (fewer l (run_f s k)) (fewer_in l (run_f s k) (run_f_in k)) depth x n l st lo

  pub run-left : (depth : ℕ) (x : Context) (n l : ℕ) (st lo : List ℤ) → RanWithin l (run_of s depth x n l st lo).ran
  unfolding run_of
  run-left depth x n l st lo = run_f_in (suc l) depth x n l st lo
