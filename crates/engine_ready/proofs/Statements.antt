-- What a statement of a passed sheet does in words, form by form.
use Rattle.std.specs.Prelude.{Option, Some, None, Ok, Err}
use Prim.Native.Nat.{ℕ, zero, suc, ◌+◌, ◌-◌, ◌<◌, ◌≤◌}
use mathlib.Core.Path.{◌≡◌, refl, sym, ap, subst, ◌∙◌}
use mathlib.Core.List.{List}
use mathlib.Core.Bool.{Bool, true, false, not}
use native.Mathlib.Omega.{arith}
use lib.Dec.{ltb, eqb}
use lib.ListN.{set}
use lib.IntN.{ℤ, pos, negsuc, nat_abs}
use borrow.Author.Tests.{ltb-true, lt-ltb, le-ltb, eq-eqb, ne_eqb, eqb-true}
use Rattle.sheet.specs.declared.Record.{Record}
use Rattle.sheet.specs.declared.Range.{Range}
use Rattle.sheet.specs.All.{◌and◌}
use Rattle.sheet.specs.Names.{declarations, names, nodes, data_of, external, role, procedure, chart_variables, body_parameters, operator, bool_type, int_type, component_type, port_type, timer_type, is_clock}
use Rattle.sheet.specs.Sheet.{count_of, record_of}
use Rattle.sheet.proofs.All.{true_false, and_first, and_second, and-true, all-at}
use Rattle.machine.specs.declared.Value.{Value}
use Rattle.machine.specs.declared.Out.{Out}
use Rattle.machine.specs.declared.Out.TheVariants as out
use Rattle.machine.specs.declared.Ran.TheVariants.{Done, Refused, Stuck}
use Rattle.sheet_rules.specs.declared.Typed.{Typed}
use Rattle.sheet_rules.specs.declared.Typed.TheVariants.{Statement}
use Rattle.sheet_rules.specs.Fields.{field_of, holds, type_at}
use Rattle.sheet_rules.specs.Forms.{Form, skip, assign, assign_element, external_send, internal_send, arm, clock_act, call, choice, loop, sequence, form_of, name_data, called_body, call_data, operands, operands_in, operands_of, operand_at, operand_count}
use Rattle.sheet_rules.specs.Shape.{variables_at, send_shape, fields_shape, tree_shape}
use Rattle.sheet_rules.specs.Types.{is_of, is_statement, variable_at, has_class, internal_name, chart_variable_type, name_range, parameters_of, clock_of, data_match, lower_type, type_in, type_of, assign_type, indexed_by, assign_element_type, external_type, internal_type, arm_type, clock_act_type, call_type, choice_type, loop_type, sequence_type}
use Rattle.sheet_rules.specs.Indices.{index_at, is_plain, cells_taken}
use Rattle.machine.specs.Values.{is_below, is_zero, in_type}
use Rattle.machine.specs.State.{cell_at, cell_of}
use Rattle.machine.specs.Eval.{Context, is_plain_variable, variable_at_cell, inside, out_of_range, eval_of}
use Rattle.machine.specs.Run as run
use Rattle.machine.specs.Run.{World, world, then_run, then_operand, with_record, provided, Values, next_value, values_from, then_values, are_of, words_in, telegram, append, armed, clock_set, assigned, assign_of, element_assigned, assign_element_of, name_values, external_send_of, internal_send_of, arm_of, clock_act_of, entered, call_of, choice_of, run_in, run_of}
use Rattle.sheet_rules.proofs.Fields.{holds-present, number-present}
use Rattle.sheet_rules.proofs.Types.{lower_type_lem}
use Rattle.machine_equations.proofs.Left.{ValuesWithin, values_left_lem}
use Rattle.machine_equations.proofs.Run.{run_none, run-visit}
use Rattle.machine_passed.specs.Places.{InChart, Placed}
use Rattle.machine_passed.proofs.Records.{held}
use Rattle.machine_passed.proofs.Declared.{name-declared, parameter_declared}
use Rattle.machine_sound.specs.Gives.{Gives, DataGive, Ends}
use Rattle.machine_sound.proofs.Leaves.{is_type_lem}
use Rattle.machine_sound.proofs.Eval.{type_at_lem, eval_gives}
use Rattle.machine_sound.proofs.Data.{data_gives, range_of, few_data}
use Rattle.machine_sound.proofs.Run.{is_statement_lem, stated, called_in, few-parameters, parameters_of_lem, timer_clock, variable-there, chart-variable-there, clock-there, statement_ends}
use Rattle.machine_sound.proofs.Armed.{armed-clock}
use Rattle.machine_sound.proofs.Indices.{ranged, Indexed, array_index}
use Rattle.engine_ints.specs.declared.Stop.TheVariants as stop
use Rattle.engine_ints.specs.Work.{work_of, ran_of}
use Rattle.engine_context.specs.Context.{cell_in, leads_to}
use Rattle.engine_ready.specs.Ready.{context_at, Ready, IsExpression, IsStatement, HasData}
use Rattle.engine_ready.proofs.Expressions.{cells}
use Rattle.engine_ready.proofs.Cells.{cell_is, plain_is_lem, taken_is}
use Rattle.engine_ready.specs.Words.{then_word, put_at, Data, before, then_datum, data_from, then_data, DataTold}

-- a value of its type goes on as its word
operand_word : (s : List ℕ) (o : Out) (t : ℕ) (st lo : List ℤ) (K : Value → ℕ → World) (L : ℤ → ℕ → World) → Gives s t o → ((v : Value) (m : ℕ) → v.kind ≡ t → in_type s t v.word ≡ true → K v m ≡ L v.word m) → then_operand o st lo K ≡ then_word (work_of o) st lo L
unfolding then_operand then_word work_of
operand_word s (out.Val v m) t st lo K L g h = h v m g.0 g.1
operand_word s (out.Refused k m) t st lo K L g h = refl
operand_word s out.Stuck t st lo K L g h = refl

-- data in words
in_words : Values → Data
in_words (run.given vs l) = Ok (words_in vs, l)
in_words (run.refused n l) = Err (stop.Refused n l)
in_words run.stuck = Err stop.Stuck

before-words : (v : Value) (d : Values) → in_words (run.before v d) ≡ before v.word (in_words d)
unfolding in_words run.before before words_in
before-words v (run.given vs l) = refl
before-words v (run.refused n l) = refl
before-words v run.stuck = refl

next_words : (o : Out) (K : ℕ → Values) (L : ℕ → Data) → ((l : ℕ) → in_words (K l) ≡ L l) → in_words (next_value o K) ≡ then_datum (work_of o) L
unfolding in_words next_value then_datum work_of
next_words (out.Val v m) K L h = before-words v (K m) ∙ ap (before v.word) (h m)
next_words (out.Refused k m) K L h = refl
next_words out.Stuck K L h = refl

from_words : (f : ℕ → ℕ → Out) (r : Record) (n j l : ℕ) → j + n ≤ 4 → in_words (values_from f r n j l) ≡ data_from f r n j l
unfolding in_words values_from data_from words_in
from_words f r zero j l h = refl
from_words f r (suc n) j l h =
    ap (λ b. in_words (elim b [ true ↦ next_value (f (field_of r (4 + j)) l) (λ l. values_from f r n (suc j) l) | false ↦ run.stuck ])) (lt-ltb (4 + j) 8 (omega arith))
    ∙ next_words (f (field_of r (4 + j)) l) _ _ (λ l. from_words f r n (suc j) l (omega arith))

-- data of their types go on as words
data_word : (s : List ℕ) (g : Range) (n : ℕ) (d : Values) (st lo : List ℤ) (K : List Value → ℕ → World) (L : List ℤ → ℕ → World) → DataGive s g n 0 d → ((vs : List Value) (m : ℕ) → are_of s g.first vs ≡ true → K vs m ≡ L (words_in vs) m) → then_values d st lo K ≡ then_data (in_words d) st lo L
unfolding in_words then_values then_data
data_word s g n (run.given vs m) st lo K L d h = let z : g.first + 0 ≡ g.first = omega arith in h vs m (rw z at d.0)
data_word s g n (run.refused k m) st lo K L d h = refl
data_word s g n run.stuck st lo K L d h = refl

-- what data of their types are in words
words-told : (s : List ℕ) (g : Range) (l : ℕ) (d : Values) → DataGive s g g.count 0 d → ValuesWithin l d → DataTold s g l (in_words d)
unfolding in_words
words-told s g l (run.given vs m) h w = (h.1, w)
words-told s g l (run.refused k m) h w = tt
words-told s g l run.stuck h w = tt

record_is : (f : Option Record) (r : Record) (st lo : List ℤ) (K : Record → World) → f ≡ Some r → with_record f st lo K ≡ K r
unfolding with_record
record_is f r st lo K e = rw e refl

provided_is : (b : Bool) (st lo : List ℤ) (w : World) → b ≡ true → provided b st lo w ≡ w
unfolding provided
provided_is b st lo w e = rw e refl

module _ (s w : List ℕ) (st lo : List ℤ) (ready : Ready s w st lo) where
  abbrev x : Context
  x = context_at s w

  abbrev placed : Placed s x
  placed = ready.running.placed

  pub no_steps : (depth n : ℕ) → run_of s depth x n 0 st lo ≡ world (Refused 10 0) st lo
  no_steps depth n = run_none s depth x n st lo

  pub absent : (depth n l : ℕ) → record_of s nodes n ≡ None → run_of s depth x n (suc l) st lo ≡ world Stuck st lo
  unfolding with_record
  absent depth n l h = run-visit s depth x n l st lo ∙ ap (λ f. with_record f st lo (λ r. run_in s x (run_of s) depth n r l st lo (form_of (operator r)))) h

  -- after a statement that is done
  pub ready_after_lem : (depth n l : ℕ) → IsStatement s w n → (m : ℕ) (st' lo' : List ℤ) → run_of s depth x n l st lo ≡ world (Done m) st' lo' → Ready s w st' lo'
  ready_after_lem depth n l i m st' lo' e =
      let h = subst (λ v. Ends s x v.ran v.st v.lo) e (statement_ends s ready.running.passed depth x n l i.levels st lo placed ready.state ready.locals i.tree i.typed) in
      record { running = ready.running; state = h.0; locals = h.1 }

  module _ (n : ℕ) (r : Record) (there : record_of s nodes n ≡ Some r) (i : IsStatement s w n) where
    abbrev f : ℕ → Typed
    f = lower_type n (type_of s x.chart x.body)

    abbrev Lower : ℕ → ℕ → Type 0
    Lower k m = ltb m n and tree_shape s x.chart x.body k m ≡ true

    opened : (k : ℕ) → tree_shape s x.chart x.body k n ≡ true → (k' : ℕ) × (fields_shape s x.chart x.body r (form_of (operator r)) ≡ true) × ((j : ℕ) → j < operand_count (operands_of s x.chart r) → Lower k' (operand_at r (operands_of s x.chart r) j))
    unfolding tree_shape
    opened zero h = absurd (true_false h refl)
    opened (suc k) h = let d = sym (holds-present _ r _ there) ∙ h in (k, and_first _ _ d, all-at _ _ (and_second _ _ d))

    abbrev level : ℕ
    level = (opened i.levels i.tree).0

    type_in_lem : type_in s x.chart x.body f r (form_of (operator r)) ≡ Statement
    type_in_lem = sym (type_at_lem s ready.running.passed x placed st lo (cells s w st lo ready) ready.locals n r there) ∙ i.typed

    module _ (F : Form) (q : form_of (operator r) ≡ F) where
      fields : fields_shape s x.chart x.body r F ≡ true
      fields = subst (λ F. fields_shape s x.chart x.body r F ≡ true) q (opened i.levels i.tree).1

      lower : (j : ℕ) → j < operand_count (operands_in s x.chart r F) → Lower level (operand_at r (operands_in s x.chart r F) j)
      unfolding operands_of
      lower = subst (λ F. (j : ℕ) → j < operand_count (operands_in s x.chart r F) → Lower level (operand_at r (operands_in s x.chart r F) j)) q (opened i.levels i.tree).2

      typed : type_in s x.chart x.body f r F ≡ Statement
      typed = subst (λ F. type_in s x.chart x.body f r F ≡ Statement) q type_in_lem

      visited : (depth l : ℕ) → run_of s depth x n (suc l) st lo ≡ run_in s x (run_of s) depth n r l st lo F
      unfolding with_record
      visited depth l = run-visit s depth x n l st lo ∙ ap (λ f. with_record f st lo (λ r. run_in s x (run_of s) depth n r l st lo (form_of (operator r)))) there ∙ ap (run_in s x (run_of s) depth n r l st lo) q

    -- operands
    module _ (m : ℕ) (low : Lower level m) where
      typed_of_lem : (y : Typed) → f m ≡ y → type_of s x.chart x.body m ≡ y
      typed_of_lem y z = sym (lower_type_lem n m (type_of s x.chart x.body) (ltb-true _ _ (and_first _ _ low))) ∙ z

      expression : (t : ℕ) → is_of (f m) t ≡ true → IsExpression s w m
      expression t z = record { levels = level; kind = t; tree = and_second _ _ low; typed = typed_of_lem _ (is_type_lem (f m) t z) }

      statement : is_statement (f m) ≡ true → IsStatement s w m
      statement z = record { levels = level; tree = and_second _ _ low; typed = typed_of_lem _ (is_statement_lem (f m) z) }

      gives : (t l : ℕ) → is_of (f m) t ≡ true → Gives s t (eval_of s x st lo m l)
      gives t l z = eval_gives s ready.running.passed x placed st lo (cells s w st lo ready) ready.locals level m t l (and_second _ _ low) (typed_of_lem _ (is_type_lem (f m) t z))

    -- ---- skip

    pub skipped : form_of (operator r) ≡ skip → (depth l : ℕ) → run_of s depth x n (suc l) st lo ≡ world (Done l) st lo
    unfolding run_in
    skipped q depth l = visited skip q depth l

    -- ---- an assignment

    module _ (q : form_of (operator r) ≡ assign) where
      assign_low : Lower level r.f3
      unfolding operands_in operand_at field_of
      assign_low = lower assign q 0 (omega arith)

      assign_types : not (eqb r.f1 0) and is_plain (index_at s (variable_at x.chart x.body r.f1 r.f2)) and is_of (f r.f3) (type_at s (variable_at x.chart x.body r.f1 r.f2)) ≡ true
      unfolding type_in assign_type
      assign_types = stated _ (typed assign q)

      pub assign_operand : IsExpression s w r.f3
      assign_operand = expression r.f3 assign_low _ (and_second _ _ (and_second _ _ assign_types))

      pub assign-plain : is_plain (index_at s (variable_at x.chart x.body r.f1 r.f2)) ≡ true
      assign-plain = and_first _ _ (and_second _ _ assign_types)

      pub assign-inside : r.f2 < variables_at x.chart x.body r.f1
      unfolding fields_shape
      assign-inside = ltb-true _ _ (and_first _ _ (fields assign q))

      pub assign_word : (depth l : ℕ) → run_of s depth x n (suc l) st lo ≡ then_word (work_of (eval_of s x st lo r.f3 l)) st lo (λ z m. assigned s x r.f1 r.f2 z m st lo)
      unfolding run_in assign_of
      assign_word depth l = visited assign q depth l ∙ operand_word s _ _ st lo _ _ (gives r.f3 assign_low _ l (and_second _ _ (and_second _ _ assign_types))) (λ v m k i. provided_is _ st lo _ (variable-there s ready.running.passed x placed st lo ready.state ready.locals r.f1 r.f2 v.kind (lt-ltb _ _ assign-inside) k assign-plain))

    -- ---- an element of an array assigned

    module _ (q : form_of (operator r) ≡ assign_element) where
      pub element-below : r.f1 < (chart_variables x.chart).count
      unfolding fields_shape
      element-below = ltb-true _ _ (and_first _ _ (fields assign_element q))

      element_low : (j : ℕ) → j < 2 → Lower level (field_of r (2 + j))
      unfolding operands_in operand_at
      element_low j l = rw (operand_at, lt-ltb j 2 l) at (lower assign_element q j (omega arith))

      abbrev d : ℕ
      d = (chart_variables x.chart).first + r.f1

      element_types : indexed_by (index_at s d) (f r.f2) and is_of (f r.f3) (type_at s d) ≡ true
      unfolding type_in assign_element_type
      element_types = stated _ (typed assign_element q)

      abbrev index : Indexed s (index_at s d) (f r.f2)
      index = array_index s d (f r.f2) (and_first _ _ element_types)

      pub index_operand : IsExpression s w r.f2
      unfolding field_of
      index_operand = expression r.f2 (element_low 0 (omega arith)) index.kind index.asked

      pub element_operand : IsExpression s w r.f3
      unfolding field_of
      element_operand = expression r.f3 (element_low 1 (omega arith)) (type_at s d) (and_second _ _ element_types)

      put_here_lem : (i z : ℤ) (l : ℕ) → element_assigned s x r.f1 (ranged (cells_taken s d) i) z l st lo ≡ put_at (leads_to w r.f1 i) z l st lo
      unfolding element_assigned leads_to put_at variable_at_cell
      put_here_lem i z l = go (is_below i (cells_taken s d)) ∙ ap {B = World} (λ c. put_at (elim (is_below i c) [ true ↦ Some (cell_at (cell_in w r.f1 + nat_abs i)) | false ↦ None ]) z l st lo) (sym (taken_is s w ready.running r.f1 element-below))
        where
          go : (b : Bool) → element_assigned s x r.f1 (elim b [ true ↦ inside (nat_abs i) | false ↦ out_of_range ]) z l st lo ≡ put_at (elim b [ true ↦ Some (cell_at (cell_in w r.f1 + nat_abs i)) | false ↦ None ]) z l st lo
          go true = ap (λ c. world (Done l) (set st c z) lo) (cell_is s w ready.running r.f1 element-below (nat_abs i))
          go false = refl

      pub element_word_lem : (depth l : ℕ) →
          run_of s depth x n (suc l) st lo ≡
          then_word (work_of (eval_of s x st lo r.f2 l)) st lo (λ i l.
          then_word (work_of (eval_of s x st lo r.f3 l)) st lo (λ z l.
          put_at (leads_to w r.f1 i) z l st lo))
      unfolding run_in assign_element_of cells_taken field_of
      element_word_lem depth l =
          visited assign_element q depth l
          ∙ operand_word s _ index.kind st lo _ _ (gives r.f2 (element_low 0 (omega arith)) index.kind l index.asked) (λ v m k i.
          operand_word s _ (type_at s d) st lo _ _ (gives r.f3 (element_low 1 (omega arith)) (type_at s d) m (and_second _ _ element_types)) (λ v' m' k' i'.
          provided_is _ st lo _ (chart-variable-there s ready.running.passed x placed st lo ready.state ready.locals r.f1 (eqb v'.kind) (lt-ltb _ _ element-below) (eq-eqb _ _ k'))
          ∙ ap (λ i. element_assigned s x r.f1 i v'.word m' st lo) (index.goes v k i)
          ∙ put_here_lem v.word v'.word m'))

    -- ---- a choice, a loop, a sequence

    module _ (q : form_of (operator r) ≡ choice) where
      choice_low : (j : ℕ) → j < 3 → Lower level (field_of r (1 + j))
      unfolding operands_in operand_at
      choice_low j l = rw (operand_at, lt-ltb j 3 l) at (lower choice q j (omega arith))

      choice_types : is_of (f r.f1) bool_type and is_statement (f r.f2) and is_statement (f r.f3) ≡ true
      unfolding type_in choice_type
      choice_types = stated _ (typed choice q)

      pub choice_operand : IsExpression s w r.f1
      unfolding field_of
      choice_operand = expression r.f1 (choice_low 0 (omega arith)) bool_type (and_first _ _ choice_types)

      pub choice_then : IsStatement s w r.f2
      unfolding field_of
      choice_then = statement r.f2 (choice_low 1 (omega arith)) (and_first _ _ (and_second _ _ choice_types))

      pub choice_else : IsStatement s w r.f3
      unfolding field_of
      choice_else = statement r.f3 (choice_low 2 (omega arith)) (and_second _ _ (and_second _ _ choice_types))

      pub choice_word : (depth l : ℕ) → run_of s depth x n (suc l) st lo ≡ then_word (work_of (eval_of s x st lo r.f1 l)) st lo (λ z m. elim (is_zero z) [ true ↦ run_of s depth x r.f3 m st lo | false ↦ run_of s depth x r.f2 m st lo ])
      unfolding run_in choice_of field_of
      choice_word depth l = visited choice q depth l ∙ operand_word s _ bool_type st lo _ _ (gives r.f1 (choice_low 0 (omega arith)) bool_type l (and_first _ _ choice_types)) (λ v m k i. provided_is _ st lo _ (eq-eqb _ _ k))

    module _ (q : form_of (operator r) ≡ loop) where
      loop_low : (j : ℕ) → j < 2 → Lower level (field_of r (1 + j))
      unfolding operands_in operand_at
      loop_low j l = rw (operand_at, lt-ltb j 2 l) at (lower loop q j (omega arith))

      loop_types : is_of (f r.f1) bool_type and is_statement (f r.f2) ≡ true
      unfolding type_in loop_type
      loop_types = stated _ (typed loop q)

      pub loop_operand : IsExpression s w r.f1
      unfolding field_of
      loop_operand = expression r.f1 (loop_low 0 (omega arith)) bool_type (and_first _ _ loop_types)

      pub loop-body : IsStatement s w r.f2
      unfolding field_of
      loop-body = statement r.f2 (loop_low 1 (omega arith)) (and_second _ _ loop_types)

      pub loop_word : (depth l : ℕ) → run_of s depth x n (suc l) st lo ≡ then_word (work_of (eval_of s x st lo r.f1 l)) st lo (λ z m. elim (is_zero z) [ true ↦ world (Done m) st lo | false ↦ then_run (run_of s depth x r.f2 m st lo) (λ m st lo. run_of s depth x n m st lo) ])
      unfolding run_in choice_of field_of
      loop_word depth l = visited loop q depth l ∙ operand_word s _ bool_type st lo _ _ (gives r.f1 (loop_low 0 (omega arith)) bool_type l (and_first _ _ loop_types)) (λ v m k i. provided_is _ st lo _ (eq-eqb _ _ k))

    module _ (q : form_of (operator r) ≡ sequence) where
      sequence_low : (j : ℕ) → j < 2 → Lower level (field_of r (1 + j))
      unfolding operands_in operand_at
      sequence_low j l = rw (operand_at, lt-ltb j 2 l) at (lower sequence q j (omega arith))

      sequence_types : is_statement (f r.f1) and is_statement (f r.f2) ≡ true
      unfolding type_in sequence_type
      sequence_types = stated _ (typed sequence q)

      pub sequence-first : IsStatement s w r.f1
      unfolding field_of
      sequence-first = statement r.f1 (sequence_low 0 (omega arith)) (and_first _ _ sequence_types)

      pub sequence_second : IsStatement s w r.f2
      unfolding field_of
      sequence_second = statement r.f2 (sequence_low 1 (omega arith)) (and_second _ _ sequence_types)

      pub sequence-runs : (depth l : ℕ) → run_of s depth x n (suc l) st lo ≡ then_run (run_of s depth x r.f1 l st lo) (λ m st lo. run_of s depth x r.f2 m st lo)
      unfolding run_in
      sequence-runs depth l = visited sequence q depth l

    -- ---- data behind c operands, for the declarations of a range

    data_low : (first c tail i : ℕ) → ((j : ℕ) → j < c + tail → Lower level (operand_at r (operands first c tail) j)) → i < tail → Lower level (field_of r (4 + i))
    unfolding operand_at
    data_low first c tail j h l =
        let q = le-ltb (c + j) c (omega arith) in
        let e : c + j - c ≡ j = omega arith in
        rw (operand_at, q, e) at (h (c + j) (omega arith))

    -- each datum is an expression of its declared type
    module _ (g : Range) (lows : (j : ℕ) → j < g.count → Lower level (field_of r (4 + j))) (d : data_match s f g r ≡ true) where
      datum_of_lem : (j : ℕ) → j < g.count → is_of (f (field_of r (4 + j))) (type_at s (g.first + j)) ≡ true
      unfolding data_match
      datum_of_lem j l = all-at g.count (λ j. is_of (f (field_of r (4 + j))) (type_at s (g.first + j))) d j l

      datum_is : (j : ℕ) → j < g.count → IsExpression s w (field_of r (4 + j))
      datum_is j l = expression (field_of r (4 + j)) (lows j l) _ (datum_of_lem j l)

      datum-gives : (j m : ℕ) → j < g.count → Gives s (type_at s (g.first + j)) (eval_of s x st lo (field_of r (4 + j)) m)
      datum-gives j m l = gives (field_of r (4 + j)) (lows j l) _ m (datum_of_lem j l)

      has_data : HasData s w st lo r g
      has_data = record { each = datum_is; gives = datum-gives }

    -- data that stand behind their declarations go on as words
    module _ (g : Range) (has : HasData s w st lo r g) (small : g.count ≤ 4) (declared : (j : ℕ) → j < g.count → g.first + j < count_of s declarations) (l : ℕ) where
      typed_data : DataGive s g g.count 0 (values_from (eval_of s x st lo) r g.count 0 l)
      typed_data = data_gives s g (eval_of s x st lo) r g.count 0 l (omega arith) (λ i q. let z : 0 + i ≡ i = omega arith in rw z (declared i q)) (λ i m q. let z : 0 + i ≡ i = omega arith in rw z (has.gives i m q))

      as_words : in_words (values_from (eval_of s x st lo) r g.count 0 l) ≡ data_from (eval_of s x st lo) r g.count 0 l
      as_words = from_words (eval_of s x st lo) r g.count 0 l (omega arith)

      gathered : (K : List Value → ℕ → World) (L : List ℤ → ℕ → World) → ((vs : List Value) (m : ℕ) → are_of s g.first vs ≡ true → K vs m ≡ L (words_in vs) m) → then_values (values_from (eval_of s x st lo) r g.count 0 l) st lo K ≡ then_data (data_from (eval_of s x st lo) r g.count 0 l) st lo L
      gathered K L h = data_word s g g.count _ st lo K L typed_data h ∙ ap (λ d. then_data d st lo L) as_words

      data_told : DataTold s g l (data_from (eval_of s x st lo) r g.count 0 l)
      data_told = subst (DataTold s g l) as_words (words-told s g l _ typed_data (values_left_lem s x st lo r g.count 0 l))

    -- the name of a send or an arming
    module _ (shape : send_shape s r ≡ true) (d : data_match s f (name_range s r.f3) r ≡ true) (first c : ℕ) (h : (j : ℕ) → j < c + name_data s r → Lower level (operand_at r (operands first c (name_data s r)) j)) where
      name-there : (a : Record) × (record_of s names r.f3 ≡ Some a)
      unfolding send_shape
      name-there = let k = held _ _ shape in (k.0, k.1)

      module _ (a : Record) (e : record_of s names r.f3 ≡ Some a) where
        name_lows : (j : ℕ) → j < (data_of a).count → Lower level (field_of r (4 + j))
        unfolding name_data
        name_lows j l = data_low first c (name_data s r) j h (subst (λ t. j < t) (sym (number-present _ a (λ n. (data_of n).count) e)) l)

        name_data_lem : HasData s w st lo r (data_of a)
        name_data_lem = has_data (data_of a) name_lows (subst (λ g. data_match s f g r ≡ true) (range_of s r.f3 a e) d)

    -- ---- an external send

    module _ (q : form_of (operator r) ≡ external_send) where
      external_types : is_of (f r.f1) component_type and is_of (f r.f2) port_type and has_class s r.f3 external and data_match s f (name_range s r.f3) r ≡ true
      unfolding type_in external_type
      external_types = stated _ (typed external_send q)

      external_low : (j : ℕ) → j < 2 + name_data s r → Lower level (operand_at r (operands 1 2 (name_data s r)) j)
      unfolding operands_in
      external_low = lower external_send q

      external-shape : send_shape s r ≡ true
      unfolding fields_shape
      external-shape = fields external_send q

      receiver_low : Lower level r.f1
      unfolding operand_at field_of
      receiver_low = external_low 0 (omega arith)

      port_low : Lower level r.f2
      unfolding operand_at field_of
      port_low = external_low 1 (omega arith)

      pub receiver_operand : IsExpression s w r.f1
      receiver_operand = expression r.f1 receiver_low component_type (and_first _ _ external_types)

      pub port_operand : IsExpression s w r.f2
      port_operand = expression r.f2 port_low port_type (and_first _ _ (and_second _ _ external_types))

      pub external-name : (a : Record) × (record_of s names r.f3 ≡ Some a)
      external-name = name-there external-shape (and_second _ _ (and_second _ _ (and_second _ _ external_types))) 1 2 external_low

      module _ (a : Record) (e : record_of s names r.f3 ≡ Some a) where
        pub external_data : HasData s w st lo r (data_of a)
        external_data = name_data_lem external-shape (and_second _ _ (and_second _ _ (and_second _ _ external_types))) 1 2 external_low a e

        pub external_word : (depth l : ℕ) →
            run_of s depth x n (suc l) st lo ≡
            then_word (work_of (eval_of s x st lo r.f1 l)) st lo (λ receiver l.
            then_word (work_of (eval_of s x st lo r.f2 l)) st lo (λ port l.
            then_data (data_from (eval_of s x st lo) r (data_of a).count 0 l) st lo (λ zs l.
            append s (telegram (pos x.element) receiver port r.f3 zs) l st lo)))
        unfolding run_in external_send_of name_values
        external_word depth l =
            visited external_send q depth l
            ∙ operand_word s _ component_type st lo _ _ (gives r.f1 receiver_low component_type l (and_first _ _ external_types)) (λ receiver m k i.
            operand_word s _ port_type st lo _ _ (gives r.f2 port_low port_type m (and_first _ _ (and_second _ _ external_types))) (λ port m' k' i'.
            record_is _ a st lo _ e
            ∙ gathered (data_of a) external_data (few_data s ready.running.passed r.f3 a e) (name-declared s ready.running.passed r.f3 a e) m' _ _ (λ vs m'' are.
            provided_is _ st lo _ (and-true _ _ (eq-eqb _ _ k) (and-true _ _ (eq-eqb _ _ k') are)))))

    -- ---- an internal send

    module _ (q : form_of (operator r) ≡ internal_send) where
      internal_types : internal_name s x.chart r.f3 and data_match s f (name_range s r.f3) r ≡ true
      unfolding type_in internal_type
      internal_types = stated _ (typed internal_send q)

      internal_low : (j : ℕ) → j < 0 + name_data s r → Lower level (operand_at r (operands 1 0 (name_data s r)) j)
      unfolding operands_in
      internal_low = lower internal_send q

      internal-shape : send_shape s r ≡ true
      unfolding fields_shape
      internal-shape = and_second _ _ (and_second _ _ (fields internal_send q))

      pub internal-there : (a : Record) × (record_of s names r.f3 ≡ Some a)
      internal-there = name-there internal-shape (and_second _ _ internal_types) 1 0 internal_low

      module _ (a : Record) (e : record_of s names r.f3 ≡ Some a) where
        pub internal_data : HasData s w st lo r (data_of a)
        internal_data = name_data_lem internal-shape (and_second _ _ internal_types) 1 0 internal_low a e

        pub internal_word : (depth l : ℕ) →
            run_of s depth x n (suc l) st lo ≡
            then_data (data_from (eval_of s x st lo) r (data_of a).count 0 l) st lo (λ zs l.
            append s (telegram (pos x.element) (pos x.element) (negsuc 0) r.f3 zs) l st lo)
        unfolding run_in internal_send_of name_values
        internal_word depth l =
            visited internal_send q depth l ∙ record_is _ a st lo _ e
            ∙ gathered (data_of a) internal_data (few_data s ready.running.passed r.f3 a e) (name-declared s ready.running.passed r.f3 a e) l _ _ (λ vs m are. provided_is _ st lo _ are)

    -- a clock whose type meets a test
    has_clock : (j : ℕ) (p : ℕ → Bool) → j < (chart_variables x.chart).count → p (type_at s ((chart_variables x.chart).first + j)) ≡ true → is_clock (type_at s ((chart_variables x.chart).first + j)) ≡ true → is_plain_variable s x j p ≡ true
    has_clock j p h e c = clock-there s ready.running.passed x placed st lo ready.state ready.locals j p (lt-ltb _ _ h) e c

    -- ---- arming

    module _ (q : form_of (operator r) ≡ arm) where
      arm_types : eqb (chart_variable_type s x.chart r.f1) (clock_of (operator r)) and is_of (f r.f2) int_type and internal_name s x.chart r.f3 and data_match s f (name_range s r.f3) r ≡ true
      unfolding type_in arm_type
      arm_types = stated _ (typed arm q)

      arm_low : (j : ℕ) → j < 1 + name_data s r → Lower level (operand_at r (operands 2 1 (name_data s r)) j)
      unfolding operands_in
      arm_low = lower arm q

      arm-shape : ltb r.f1 (chart_variables x.chart).count and send_shape s r ≡ true
      unfolding fields_shape
      arm-shape = fields arm q

      period_low : Lower level r.f2
      unfolding operand_at field_of
      period_low = arm_low 0 (omega arith)

      pub period_operand : IsExpression s w r.f2
      period_operand = expression r.f2 period_low int_type (and_first _ _ (and_second _ _ arm_types))

      pub arm-inside : r.f1 < (chart_variables x.chart).count
      arm-inside = ltb-true _ _ (and_first _ _ arm-shape)

      pub arm_type_lem : type_at s ((chart_variables x.chart).first + r.f1) ≡ clock_of (operator r)
      arm_type_lem = eqb-true _ _ (and_first _ _ arm_types)

      pub arm-clock : is_clock (type_at s ((chart_variables x.chart).first + r.f1)) ≡ true
      arm-clock = ap is_clock arm_type_lem ∙ (armed-clock (operator r) q).0

      pub arm-name : (a : Record) × (record_of s names r.f3 ≡ Some a)
      arm-name = name-there (and_second _ _ arm-shape) (and_second _ _ (and_second _ _ (and_second _ _ arm_types))) 2 1 arm_low

      module _ (a : Record) (e : record_of s names r.f3 ≡ Some a) where
        pub arm_data : HasData s w st lo r (data_of a)
        arm_data = name_data_lem (and_second _ _ arm-shape) (and_second _ _ (and_second _ _ (and_second _ _ arm_types))) 2 1 arm_low a e

        pub arm_word : (depth l : ℕ) →
            run_of s depth x n (suc l) st lo ≡
            then_word (work_of (eval_of s x st lo r.f2 l)) st lo (λ period l.
            then_data (data_from (eval_of s x st lo) r (data_of a).count 0 l) st lo (λ zs l.
            armed (cell_at (cell_in w r.f1)) (clock_of (operator r)) period r.f3 zs l st lo))
        unfolding run_in arm_of name_values variable_at_cell
        arm_word depth l =
            visited arm q depth l
            ∙ operand_word s _ int_type st lo _ _ (gives r.f2 period_low int_type l (and_first _ _ (and_second _ _ arm_types))) (λ period m k i.
            record_is _ a st lo _ e
            ∙ gathered (data_of a) arm_data (few_data s ready.running.passed r.f3 a e) (name-declared s ready.running.passed r.f3 a e) m _ _ (λ vs m' are.
            provided_is _ st lo _ (and-true _ _ (has_clock r.f1 (eqb (clock_of (operator r))) arm-inside (eq-eqb _ _ (sym arm_type_lem)) arm-clock) (and-true _ _ (eq-eqb _ _ k) are))
            ∙ ap (λ c. armed c (clock_of (operator r)) period.word r.f3 (words_in vs) m' st lo) (plain_is_lem s w ready.running r.f1 arm-inside)))

    -- ---- 38 start Timer, 39 stop any clock

    module _ (q : form_of (operator r) ≡ clock_act) where
      pub act_inside : r.f1 < (chart_variables x.chart).count
      unfolding fields_shape
      act_inside = ltb-true _ _ (and_first _ _ (fields clock_act q))

      act_types : elim (eqb (operator r) 38) [ true ↦ eqb (chart_variable_type s x.chart r.f1) timer_type | false ↦ is_clock (chart_variable_type s x.chart r.f1) ] ≡ true
      unfolding type_in clock_act_type
      act_types = stated _ (typed clock_act q)

      abbrev acts : ℕ → Bool → World
      acts l b =
          elim b [
            | true ↦ provided (is_plain_variable s x r.f1 (eqb timer_type)) st lo (clock_set (variable_at_cell s x r.f1 0) (pos 1) l st lo)
            | false ↦ provided (is_plain_variable s x r.f1 is_clock) st lo (clock_set (variable_at_cell s x r.f1 0) (pos 0) l st lo)
          ]

      pub act_clock : is_clock (chart_variable_type s x.chart r.f1) ≡ true
      act_clock = go (eqb (operator r) 38) act_types
        where
          go : (b : Bool) → elim b [ true ↦ eqb (chart_variable_type s x.chart r.f1) timer_type | false ↦ is_clock (chart_variable_type s x.chart r.f1) ] ≡ true → is_clock (chart_variable_type s x.chart r.f1) ≡ true
          go true t = timer_clock (eqb-true _ _ t)
          go false t = t

      -- the cell by the body's numbers
      set_here : (z : ℤ) (l : ℕ) → clock_set (cell_of s x.element x.chart r.f1 0) z l st lo ≡ clock_set (cell_at (cell_in w r.f1)) z l st lo
      set_here z l = ap (λ c. clock_set c z l st lo) (plain_is_lem s w ready.running r.f1 act_inside)

      pub started_word : operator r ≡ 38 → (depth l : ℕ) → run_of s depth x n (suc l) st lo ≡ clock_set (cell_at (cell_in w r.f1)) (pos 1) l st lo
      unfolding run_in clock_act_of variable_at_cell
      started_word h depth l =
          let b = eq-eqb (operator r) 38 h in
          let k : chart_variable_type s x.chart r.f1 ≡ timer_type = eqb-true _ _ (subst (λ b. elim b [ true ↦ eqb (chart_variable_type s x.chart r.f1) timer_type | false ↦ is_clock (chart_variable_type s x.chart r.f1) ] ≡ true) b act_types) in
          visited clock_act q depth l ∙ ap (acts l) b ∙ provided_is _ st lo _ (has_clock r.f1 (eqb timer_type) act_inside (eq-eqb _ _ (sym k)) act_clock) ∙ set_here (pos 1) l

      pub stopped_word : (operator r ≡ 38 → ⊥) → (depth l : ℕ) → run_of s depth x n (suc l) st lo ≡ clock_set (cell_at (cell_in w r.f1)) (pos 0) l st lo
      unfolding run_in clock_act_of variable_at_cell
      stopped_word h depth l =
          let b = ne_eqb (operator r) 38 h in
          visited clock_act q depth l ∙ ap (acts l) b ∙ provided_is _ st lo _ (has_clock r.f1 is_clock act_inside act_clock act_clock) ∙ set_here (pos 0) l

    -- ---- a call

    module _ (q : form_of (operator r) ≡ call) where
      call_types : holds (called_body s x.chart r) (λ p. eqb (role p) procedure) and data_match s f (parameters_of (called_body s x.chart r)) r ≡ true
      unfolding type_in call_type
      call_types = stated _ (typed call q)

      call_low : (j : ℕ) → j < 0 + call_data s x.chart r → Lower level (operand_at r (operands 1 0 (call_data s x.chart r)) j)
      unfolding operands_in
      call_low = lower call q

      pub called-there : (b : Record) × (called_body s x.chart r ≡ Some b)
      called-there = let h = held _ _ (and_first _ _ call_types) in (h.0, h.1)

      module _ (b : Record) (e : called_body s x.chart r ≡ Some b) where
        call_lows : (j : ℕ) → j < (body_parameters b).count → Lower level (field_of r (4 + j))
        unfolding call_data
        call_lows j l = data_low 1 0 (call_data s x.chart r) j call_low (subst (λ t. j < t) (sym (number-present _ b (λ b. (body_parameters b).count) e)) l)

        pub call_data_lem : HasData s w st lo r (body_parameters b)
        call_data_lem = has_data (body_parameters b) call_lows (subst (λ g. data_match s f g r ≡ true) (parameters_of_lem _ b e) (and_second _ _ call_types))

        in_chart_lem : InChart s x.chart b
        in_chart_lem = called_in s x.chart r b e

        pub call-told : (l : ℕ) → DataTold s (body_parameters b) l (data_from (eval_of s x st lo) r (body_parameters b).count 0 l)
        call-told l = data_told (body_parameters b) call_data_lem (few-parameters s ready.running.passed b x.chart in_chart_lem) (parameter_declared s ready.running.passed _ x.chart placed.element.chart b in_chart_lem) l

        pub call_word : (depth l : ℕ) →
            run_of s depth x n (suc l) st lo ≡
            then_data (data_from (eval_of s x st lo) r (body_parameters b).count 0 l) st lo (λ zs l.
            entered s x (run_of s) depth b zs l st lo)
        unfolding run_in call_of
        call_word depth l =
            visited call q depth l ∙ record_is _ b st lo _ e
            ∙ gathered (body_parameters b) call_data_lem (few-parameters s ready.running.passed b x.chart in_chart_lem) (parameter_declared s ready.running.passed _ x.chart placed.element.chart b in_chart_lem) l _ _ (λ vs m are. provided_is _ st lo _ are)
