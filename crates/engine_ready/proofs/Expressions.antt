-- What an expression of a passed sheet gives in words, form by form.
use Rattle.std.specs.Prelude.{Some, None, Ok, Err}
use Prim.Native.Nat.{ℕ, zero, suc, ◌+◌, ◌<◌}
use mathlib.Core.Path.{◌≡◌, refl, sym, ap, subst, ◌∙◌}
use mathlib.Core.List.{List}
use mathlib.Core.Bool.{Bool, true, false}
use native.Mathlib.Omega.{arith}
use lib.Dec.{ltb, eqb}
use lib.IntN.{ℤ, nat_abs}
use borrow.Author.Tests.{ltb-true, lt-ltb, eq-eqb, ne_eqb}
use Rattle.sheet.specs.declared.Record.{Record}
use Rattle.sheet.specs.All.{◌and◌}
use Rattle.sheet.specs.Names.{nodes, chart_parameters, chart_variables, body_parameters, body_locals, operator, is_literal, is_clock, bool_type, int_type}
use Rattle.sheet.specs.Sheet.{record_of}
use Rattle.sheet.proofs.All.{true_false, and_first, and_second, and-true, all-at}
use Rattle.machine.specs.declared.Value.{Value}
use Rattle.machine.specs.declared.Out.{Out}
use Rattle.machine.specs.declared.Out.TheVariants as out
use Rattle.sheet_rules.specs.declared.Typed.{Typed}
use Rattle.sheet_rules.specs.declared.Typed.TheVariants.{Expression}
use Rattle.sheet_rules.specs.Fields.{field_of, type_at}
use Rattle.sheet_rules.specs.Forms.{Form, literal, read, unary, binary, clock, read_element, skip, assign, external_send, internal_send, arm, clock_act, call, choice, loop, sequence, assign_element, unknown, form_of, operands_in, operands_of, operand_at, operand_count, Binary, both, equal, less, plus, minus, times, div, modulo, binary_of}
use Rattle.sheet_rules.specs.Bindings.{constant_binding, constant_of}
use Rattle.sheet_rules.specs.Shape.{variables_at, fields_shape, tree_shape}
use Rattle.sheet_rules.specs.Indices.{index_at, is_plain, cells_taken}
use Rattle.sheet_rules.specs.Types.{variable_at, read_type, clock_type, indexed_by, read_element_type, lower_type, type_in, type_of}
use Rattle.machine.specs.Values.{is_below, is_zero, in_type}
use Rattle.machine.specs.State.{cell_at, cell_of, word_of}
use Rattle.machine.specs.Eval.{and_then, needs, on_record, val, bool_word, not_val, on_ints, combined, binary_val, literal_value, within, of_type, Context, parameter_val, variable_at_cell, inside, out_of_range, reached, element_as, element_val, read_as, read_val, clock_word, clock_val, eval_in, eval_of}
use Rattle.sheet_rules.proofs.Fields.{holds-present}
use Rattle.sheet_rules.proofs.Bindings.{constant_inside}
use Rattle.sheet_rules.proofs.Forms.{is_expression_form}
use Rattle.sheet_rules.proofs.Types.{lower_type_lem}
use Rattle.machine_equations.proofs.Eval.{eval_none, eval_visit}
use Rattle.machine_passed.specs.Places.{Placed, Cells}
use Rattle.machine_passed.proofs.Charts.{element-chart}
use Rattle.machine_passed.proofs.Declared.{declared_record, variable-declared, chart-variable-declared}
use Rattle.machine_passed.proofs.Indices.{clock-plain}
use Rattle.machine_states.proofs.Parts.{cell_of_lem}
use Rattle.machine_sound.proofs.Locals.{few}
use Rattle.machine_sound.specs.Gives.{Gives}
use Rattle.machine_sound.proofs.Leaves.{Both, asked, not_gives, binary-gives}
use Rattle.machine_sound.proofs.Eval.{on-present, few-parameters, clock_word_lem, element-gives, type_at_lem, eval_gives}
use Rattle.machine_sound.proofs.Indices.{ranged, Indexed, array_index, array_leads, array_data}
use Rattle.engine_ints.specs.declared.Stop.TheVariants.{Refused, Stuck}
use Rattle.engine_ints.specs.Work.{Work, work_of, then_work, not_work, combined_work, binary_work}
use Rattle.engine_context.specs.Context.{cell_in, leads_to}
use Rattle.engine_ready.specs.Ready.{context_at, Ready, Lies, IsExpression}
use Rattle.engine_ready.specs.Words.{element_word}
use Rattle.engine_ready.proofs.Cells.{cell_is, plain_is_lem, taken_is, lies}

-- a test that holds is passed
needs_word : (b : Bool) (o : Out) (w : Work) → (b ≡ true → work_of o ≡ w) → (work_of (needs b o) ≡ Err Stuck → ⊥) → work_of (needs b o) ≡ w
unfolding needs work_of
needs_word true o w h n = h refl
needs_word false o w h n = absurd (n refl)

-- three tests, one after another
needs_three : (a b c : Bool) (o : Out) → (work_of (needs a (needs b (needs c o))) ≡ Err Stuck → ⊥) → work_of (needs a (needs b (needs c o))) ≡ work_of o
unfolding needs work_of
needs_three true true true o n = refl
needs_three true true false o n = absurd (n refl)
needs_three true false c o n = absurd (n refl)
needs_three false b c o n = absurd (n refl)

needs_met : (b : Bool) (o : Out) → b ≡ true → needs b o ≡ o
unfolding needs
needs_met b o e = rw e refl

needs_through : (b : Bool) (o : Out) → b ≡ true → work_of (needs b o) ≡ work_of o
unfolding needs
needs_through b o e = rw e refl

-- what has a type is not stuck
not_stuck : (s : List ℕ) (t : ℕ) (o : Out) → Gives s t o → work_of o ≡ Err Stuck → ⊥
unfolding work_of
not_stuck s t (out.Val v m) g e = cc
not_stuck s t (out.Refused k m) g e = cc
not_stuck s t out.Stuck g e = absurd g

-- a value of a type goes on as its word
then_word_lem : (s : List ℕ) (u : ℕ) (o : Out) (K : Value → ℕ → Out) (L : ℤ → ℕ → Work) → Gives s u o → ((v : Value) (l : ℕ) → v.kind ≡ u → in_type s u v.word ≡ true → work_of (K v l) ≡ L v.word l) → work_of (and_then o K) ≡ then_work (work_of o) L
unfolding and_then work_of then_work
then_word_lem s u (out.Val v m) K L g h = h v m g.0 g.1
then_word_lem s u (out.Refused k m) K L g h = refl
then_word_lem s u out.Stuck K L g h = refl

-- an operator whose operands have its types
binary_word : (op : ℕ) (a b : Value) (l : ℕ) → (work_of (binary_val op a b l) ≡ Err Stuck → ⊥) → work_of (binary_val op a b l) ≡ binary_work op a.word b.word l
unfolding binary_val binary_work combined on_ints combined_work work_of
binary_word op a b l = go (binary_of op)
  where
    go : (o : Binary) → (work_of (combined o a b l) ≡ Err Stuck → ⊥) → work_of (combined o a b l) ≡ combined_work o a.word b.word l
    go both n = needs_word _ _ _ (λ h. refl) n
    go equal n = needs_word _ _ _ (λ h. refl) n
    go less n = needs_word _ _ _ (λ h. refl) n
    go plus n = needs_word _ _ _ (λ h. refl) n
    go minus n = needs_word _ _ _ (λ h. refl) n
    go times n = needs_word _ _ _ (λ h. refl) n
    go div n = needs_word _ _ _ (λ h. refl) n
    go modulo n = needs_word _ _ _ (λ h. refl) n

module _ (s w : List ℕ) (st lo : List ℤ) (ready : Ready s w st lo) where
  abbrev x : Context
  x = context_at s w

  abbrev placed : Placed s x
  placed = ready.running.placed

  pub cells : Cells s x st
  cells j k l m = cell_of_lem s st ready.state x.element x.chart (element-chart s x.element placed.bound x.chart placed.element) j l k m

  -- ---- a node that is there

  module _ (n : ℕ) (r : Record) (there : record_of s nodes n ≡ Some r) (e : IsExpression s w n) where
    abbrev f : ℕ → Typed
    f = lower_type n (type_of s x.chart x.body)

    abbrev Lower : ℕ → ℕ → Type 0
    Lower k m = ltb m n and tree_shape s x.chart x.body k m ≡ true

    -- its fields, and its operands one level lower
    opened : (k : ℕ) → tree_shape s x.chart x.body k n ≡ true → (k' : ℕ) × (fields_shape s x.chart x.body r (form_of (operator r)) ≡ true) × ((j : ℕ) → j < operand_count (operands_of s x.chart r) → Lower k' (operand_at r (operands_of s x.chart r) j))
    unfolding tree_shape
    opened zero h = absurd (true_false h refl)
    opened (suc k) h = let d = sym (holds-present _ r _ there) ∙ h in (k, and_first _ _ d, all-at _ _ (and_second _ _ d))

    type_in_lem : type_in s x.chart x.body f r (form_of (operator r)) ≡ Expression e.kind
    type_in_lem = sym (type_at_lem s ready.running.passed x placed st lo cells ready.locals n r there) ∙ e.typed

    module _ (F : Form) (q : form_of (operator r) ≡ F) where
      fields : fields_shape s x.chart x.body r F ≡ true
      fields = subst (λ F. fields_shape s x.chart x.body r F ≡ true) q (opened e.levels e.tree).1

      lower : (j : ℕ) → j < operand_count (operands_in s x.chart r F) → Lower (opened e.levels e.tree).0 (operand_at r (operands_in s x.chart r F) j)
      unfolding operands_of
      lower = subst (λ F. (j : ℕ) → j < operand_count (operands_in s x.chart r F) → Lower (opened e.levels e.tree).0 (operand_at r (operands_in s x.chart r F) j)) q (opened e.levels e.tree).2

      typed : type_in s x.chart x.body f r F ≡ Expression e.kind
      typed = subst (λ F. type_in s x.chart x.body f r F ≡ Expression e.kind) q type_in_lem

      visited : (l : ℕ) → eval_of s x st lo n (suc l) ≡ eval_in s x st lo (eval_of s x st lo) r l F
      unfolding on_record
      visited l = eval_visit s x st lo n l ∙ ap (λ f. on_record f (λ r. eval_in s x st lo (eval_of s x st lo) r l (form_of (operator r)))) there ∙ ap (eval_in s x st lo (eval_of s x st lo) r l) q

      goes : (l : ℕ) → work_of (eval_in s x st lo (eval_of s x st lo) r l F) ≡ Err Stuck → ⊥
      goes l z = not_stuck s e.kind (eval_of s x st lo n (suc l)) (eval_gives s ready.running.passed x placed st lo cells ready.locals e.levels n e.kind (suc l) e.tree e.typed) (ap work_of (visited l) ∙ z)

    -- an operand that is an expression
    module _ (m k : ℕ) (low : Lower k m) where
      typed_of_lem : (t : ℕ) → f m ≡ Expression t → type_of s x.chart x.body m ≡ Expression t
      typed_of_lem t z = sym (lower_type_lem n m (type_of s x.chart x.body) (ltb-true _ _ (and_first _ _ low))) ∙ z

      operand_is : (t : ℕ) → f m ≡ Expression t → IsExpression s w m
      operand_is t z = record { levels = k; kind = t; tree = and_second _ _ low; typed = typed_of_lem t z }

      operand_gives : (t l : ℕ) → f m ≡ Expression t → Gives s t (eval_of s x st lo m l)
      operand_gives t l z = eval_gives s ready.running.passed x placed st lo cells ready.locals k m t l (and_second _ _ low) (typed_of_lem t z)

    -- ---- leaves

    within_word : (F : Form) (q : form_of (operator r) ≡ F) (l : ℕ) (v : Value) → eval_in s x st lo (eval_of s x st lo) r l F ≡ within s v l → work_of (eval_of s x st lo n (suc l)) ≡ Ok (v.word, l)
    unfolding within work_of
    within_word F q l v h = ap work_of (visited F q l) ∙ ap work_of h ∙ needs_word _ _ _ (λ b. refl) (λ z. goes F q l (ap work_of h ∙ z))

    pub literal_word : form_of (operator r) ≡ literal → (l : ℕ) → work_of (eval_of s x st lo n (suc l)) ≡ Ok ((literal_value x.element r).word, l)
    unfolding eval_in
    literal_word q l = within_word literal q l (literal_value x.element r) refl

    module _ (q : form_of (operator r) ≡ read) where
      pub read-inside : r.f2 < variables_at x.chart x.body r.f1
      unfolding fields_shape
      read-inside = ltb-true _ _ (and_first _ _ (fields read q))

      variable-below : r.f1 ≡ 1 → r.f2 < (chart_variables x.chart).count
      unfolding variables_at
      variable-below one = subst (λ p. r.f2 < variables_at x.chart x.body p) one read-inside

      -- "operators 7 and 33 don't take an array"
      read_plain : is_plain (index_at s (variable_at x.chart x.body r.f1 r.f2)) ≡ true
      unfolding type_in read_type
      read_plain = and_second _ _ (asked _ _ (typed read q)).0

      pub variable_lies : r.f1 ≡ 1 → Lies w st r.f2
      unfolding variable_at
      variable_lies one = lies s w st lo ready r.f2 (variable-below one) (subst (λ p. is_plain (index_at s (variable_at x.chart x.body p r.f2)) ≡ true) one read_plain)

      pub local_inside : r.f1 ≡ 2 → r.f2 < 16
      unfolding variables_at
      local_inside two = let h : r.f2 < (body_parameters x.body).count + (body_locals x.body).count = subst (λ p. r.f2 < variables_at x.chart x.body p) two read-inside in omega (arith, few s ready.running.passed x placed)

      pub no_other_place : (r.f1 ≡ 0 → ⊥) → (r.f1 ≡ 1 → ⊥) → (r.f1 ≡ 2 → ⊥) → ⊥
      unfolding variables_at
      no_other_place a b c = let z : variables_at x.chart x.body r.f1 ≡ 0 = rw (variables_at, ne_eqb r.f1 0 a, ne_eqb r.f1 1 b, ne_eqb r.f1 2 c) refl in omega (arith, read-inside)

      abbrev declared : ℕ
      declared = type_at s (variable_at x.chart x.body r.f1 r.f2)

      read_as_lem : (l : ℕ) → eval_in s x st lo (eval_of s x st lo) r l read ≡ read_as s x st lo r.f1 r.f2 declared l
      unfolding eval_in read_val
      read_as_lem l =
          let d = declared_record s _ (variable-declared s ready.running.passed _ _ placed.element.chart x.body placed.body r.f1 r.f2 read-inside) in
          needs_met _ _ (and-true _ _ (lt-ltb _ _ read-inside) read_plain) ∙ on-present _ d.0 _ d.1 ∙ ap (λ t. read_as s x st lo r.f1 r.f2 t l) d.2

      pub variable_word : r.f1 ≡ 1 → (l : ℕ) → work_of (eval_of s x st lo n (suc l)) ≡ Ok (word_of st (cell_at (cell_in w r.f2)), l)
      unfolding read_as variable_at_cell word_of
      variable_word one l = within_word read q l (val declared (word_of st (cell_of s x.element x.chart r.f2 0))) (read_as_lem l ∙ ap (λ p. read_as s x st lo p r.f2 declared l) one) ∙ ap (λ i. Ok (word_of st i, l)) (plain_is_lem s w ready.running r.f2 (variable-below one))

      pub local_word : r.f1 ≡ 2 → (l : ℕ) → work_of (eval_of s x st lo n (suc l)) ≡ Ok (word_of lo r.f2, l)
      unfolding read_as
      local_word two l = within_word read q l (val declared (word_of lo r.f2)) (read_as_lem l ∙ ap (λ p. read_as s x st lo p r.f2 declared l) two ∙ needs_met _ _ (lt-ltb _ _ (local_inside two)))

      -- a chart parameter: the constant in the element's binding
      module _ (none : r.f1 ≡ 0) where
        -- what a node gives as the constant
        abbrev constant_val : ℕ → Record → Out
        constant_val l c = needs (is_literal (operator c)) (of_type declared (literal_value x.element c) (within s (literal_value x.element c) l))

        parameter_as : (l : ℕ) → eval_in s x st lo (eval_of s x st lo) r l read ≡ on_record (constant_binding s x.binding r.f2) (λ b. on_record (record_of s nodes (constant_of b r.f2)) (constant_val l))
        unfolding read_as parameter_val variables_at
        parameter_as l =
            let h : r.f2 < (chart_parameters x.chart).count = subst (λ p. r.f2 < variables_at x.chart x.body p) none read-inside in
            read_as_lem l ∙ ap (λ p. read_as s x st lo p r.f2 declared l) none ∙ needs_met _ _ (constant_inside r.f2 (omega (arith, few-parameters s ready.running.passed x placed st lo cells ready.locals)))

        -- no such binding record
        pub parameter_unbound : constant_binding s x.binding r.f2 ≡ None → (l : ℕ) → work_of (eval_of s x st lo n (suc l)) ≡ Err Stuck
        unfolding on_record work_of
        parameter_unbound b l = ap work_of (visited read q l ∙ parameter_as l ∙ ap (λ f. on_record f (λ b. on_record (record_of s nodes (constant_of b r.f2)) (constant_val l))) b)

        module _ (b : Record) (bound : constant_binding s x.binding r.f2 ≡ Some b) where
          parameter_from : (l : ℕ) → eval_in s x st lo (eval_of s x st lo) r l read ≡ on_record (record_of s nodes (constant_of b r.f2)) (constant_val l)
          unfolding on_record
          parameter_from l = parameter_as l ∙ ap (λ f. on_record f (λ b. on_record (record_of s nodes (constant_of b r.f2)) (constant_val l))) bound

          pub parameter_word : (c : Record) → record_of s nodes (constant_of b r.f2) ≡ Some c → (l : ℕ) → work_of (eval_of s x st lo n (suc l)) ≡ Ok ((literal_value x.element c).word, l)
          unfolding on_record of_type within work_of
          parameter_word c h l =
              let p = parameter_from l ∙ ap (λ f. on_record f (constant_val l)) h in
              ap work_of (visited read q l ∙ p) ∙ needs_three _ _ _ _ (λ z. goes read q l (ap work_of p ∙ z))

          -- no such constant
          pub parameter_stuck : record_of s nodes (constant_of b r.f2) ≡ None → (l : ℕ) → work_of (eval_of s x st lo n (suc l)) ≡ Err Stuck
          unfolding on_record work_of
          parameter_stuck h l = ap work_of (visited read q l ∙ parameter_from l ∙ ap (λ f. on_record f (constant_val l)) h)

    -- ---- clocks

    module _ (q : form_of (operator r) ≡ clock) where
      clock-inside : r.f1 < (chart_variables x.chart).count
      unfolding fields_shape
      clock-inside = ltb-true _ _ (and_first _ _ (fields clock q))

      is_clock_lem : is_clock (type_at s ((chart_variables x.chart).first + r.f1)) ≡ true
      unfolding type_in clock_type
      is_clock_lem = (asked _ _ (typed clock q)).0

      pub clock_lies : Lies w st r.f1
      clock_lies = lies s w st lo ready r.f1 clock-inside (clock-plain s ready.running.passed _ is_clock_lem)

      abbrev here : cell_of s x.element x.chart r.f1 0 ≡ cell_at (cell_in w r.f1)
      here = plain_is_lem s w ready.running r.f1 clock-inside

      -- 17 its running word, 18 its value
      clock_as : (l : ℕ) (v : Value) → elim (eqb (operator r) 17) [ true ↦ within s (val bool_type (word_of st (variable_at_cell s x r.f1 0))) l | false ↦ within s (val int_type (clock_word s x st r.f1)) l ] ≡ within s v l → work_of (eval_of s x st lo n (suc l)) ≡ Ok (v.word, l)
      unfolding eval_in clock_val within work_of
      clock_as l v h = ap work_of (visited clock q l) ∙ needs_word _ _ _ (λ b. ap work_of h ∙ needs_word _ _ _ (λ c. refl) (λ z. goes clock q l (needs_through _ _ b ∙ ap work_of h ∙ z))) (goes clock q l)

      pub running_word : operator r ≡ 17 → (l : ℕ) → work_of (eval_of s x st lo n (suc l)) ≡ Ok (word_of st (cell_at (cell_in w r.f1)), l)
      unfolding variable_at_cell
      running_word h l = clock_as l (val bool_type (word_of st (cell_of s x.element x.chart r.f1 0))) (rw (eq-eqb (operator r) 17 h) refl) ∙ ap (λ i. Ok (word_of st i, l)) here

      pub value_word : (operator r ≡ 17 → ⊥) → (l : ℕ) → work_of (eval_of s x st lo n (suc l)) ≡ Ok (word_of st (cell_at (cell_in w r.f1) + 1), l)
      value_word h l = clock_as l (val int_type (clock_word s x st r.f1)) (rw (ne_eqb (operator r) 17 h) refl) ∙ ap (λ z. Ok (z, l)) (clock_word_lem s ready.running.passed x placed st lo cells ready.locals r.f1 clock-inside is_clock_lem) ∙ ap (λ i. Ok (word_of st (i + 1), l)) here

    -- ---- an element of an array

    module _ (q : form_of (operator r) ≡ read_element) where
      pub element-below : r.f1 < (chart_variables x.chart).count
      unfolding fields_shape
      element-below = ltb-true _ _ (and_first _ _ (fields read_element q))

      index_lower : Lower (opened e.levels e.tree).0 r.f2
      unfolding operands_in operand_at field_of
      index_lower = lower read_element q 0 (omega arith)

      pub index_low : r.f2 < n
      index_low = ltb-true _ _ (and_first _ _ index_lower)

      abbrev d : ℕ
      d = (chart_variables x.chart).first + r.f1

      indexed : indexed_by (index_at s d) (f r.f2) ≡ true
      unfolding type_in read_element_type
      indexed = (asked _ _ (typed read_element q)).0

      abbrev index : Indexed s (index_at s d) (f r.f2)
      index = array_index s d (f r.f2) indexed

      pub index_operand : IsExpression s w r.f2
      index_operand = operand_is r.f2 _ index_lower index.kind index.typed

      element-value : (v : Value) (l : ℕ) → v.kind ≡ index.kind → in_type s index.kind v.word ≡ true → element_val s x st r.f1 v l ≡ element_as s x st r.f1 (type_at s d) (ranged (cells_taken s d) v.word) l
      unfolding element_val cells_taken
      element-value v l k i =
          let r' = declared_record s d (chart-variable-declared s ready.running.passed _ _ placed.element.chart r.f1 element-below) in
          needs_met _ _ (lt-ltb _ _ element-below) ∙ on-present _ r'.0 _ r'.1 ∙ ap (λ t. element_as s x st r.f1 t (reached (index_at s d) v) l) r'.2 ∙ ap (λ i. element_as s x st r.f1 (type_at s d) i l) (index.goes v k i)

      pub element_word_lem : (l : ℕ) → work_of (eval_of s x st lo n (suc l)) ≡ then_work (work_of (eval_of s x st lo r.f2 l)) (λ i. element_word st (leads_to w r.f1 i))
      unfolding eval_in leads_to element_word element_as variable_at_cell within work_of
      element_word_lem l =
          ap work_of (visited read_element q l)
          ∙ then_word_lem s index.kind (eval_of s x st lo r.f2 l) _ _ (operand_gives r.f2 _ index_lower index.kind l index.typed) (λ v m k i.
          let gives = element-gives s ready.running.passed x placed st lo cells ready.locals r.f1 m element-below (array_data s ready.running.passed d (f r.f2) indexed) v (array_leads s d (f r.f2) indexed v k i) in
          let same = ap work_of (element-value v m k i) in
          same ∙ go v m (is_below v.word (cells_taken s d)) (λ z. not_stuck s (type_at s d) (element_val s x st r.f1 v m) gives (same ∙ z))
          ∙ ap {B = Work} (λ c. element_word st (elim (is_below v.word c) [ true ↦ Some (cell_at (cell_in w r.f1 + nat_abs v.word)) | false ↦ None ]) m) (sym (taken_is s w ready.running r.f1 element-below)))
        where
          go : (v : Value) (m : ℕ) (b : Bool) → (work_of (element_as s x st r.f1 (type_at s d) (elim b [ true ↦ inside (nat_abs v.word) | false ↦ out_of_range ]) m) ≡ Err Stuck → ⊥) → work_of (element_as s x st r.f1 (type_at s d) (elim b [ true ↦ inside (nat_abs v.word) | false ↦ out_of_range ]) m) ≡ element_word st (elim b [ true ↦ Some (cell_at (cell_in w r.f1 + nat_abs v.word)) | false ↦ None ]) m
          go v m true g = needs_word _ (out.Val (val (type_at s d) (word_of st (variable_at_cell s x r.f1 (nat_abs v.word)))) m) _ (λ b. ap (λ i. Ok (word_of st i, m)) (cell_is s w ready.running r.f1 element-below (nat_abs v.word))) g
          go v m false g = refl

    -- ---- operators

    module _ (q : form_of (operator r) ≡ unary) where
      low₁ : Lower (opened e.levels e.tree).0 r.f1
      unfolding operands_in operand_at field_of
      low₁ = lower unary q 0 (omega arith)

      pub unary_low : r.f1 < n
      unary_low = ltb-true _ _ (and_first _ _ low₁)

      not_type_lem : (f r.f1 ≡ Expression bool_type) × ((v : Value) (l : ℕ) → v.kind ≡ bool_type → Gives s e.kind (not_val v l))
      unfolding type_in
      not_type_lem = not_gives s e.kind (f r.f1) (typed unary q)

      pub unary_operand : IsExpression s w r.f1
      unary_operand = operand_is r.f1 _ low₁ bool_type not_type_lem.0

      pub not_word_lem : (l : ℕ) → work_of (eval_of s x st lo n (suc l)) ≡ then_work (work_of (eval_of s x st lo r.f1 l)) not_work
      unfolding eval_in not_val not_work work_of needs
      not_word_lem l =
          ap work_of (visited unary q l)
          ∙ then_word_lem s bool_type (eval_of s x st lo r.f1 l) not_val not_work (operand_gives r.f1 _ low₁ bool_type l not_type_lem.0) (λ v m k i. ap work_of (ap (λ b. needs b (out.Val (val bool_type (bool_word (is_zero v.word))) m)) (eq-eqb _ _ k)))

    module _ (q : form_of (operator r) ≡ binary) where
      low_first : Lower (opened e.levels e.tree).0 r.f1
      unfolding operands_in operand_at field_of
      low_first = lower binary q 0 (omega arith)

      low_second : Lower (opened e.levels e.tree).0 r.f2
      unfolding operands_in operand_at field_of
      low_second = lower binary q 1 (omega arith)

      pub first_low_lem : r.f1 < n
      first_low_lem = ltb-true _ _ (and_first _ _ low_first)

      pub second_low : r.f2 < n
      second_low = ltb-true _ _ (and_first _ _ low_second)

      two_types : Both s (binary_val (operator r)) e.kind (f r.f1) (f r.f2)
      unfolding type_in
      two_types = binary-gives s (operator r) e.kind (f r.f1) (f r.f2) (typed binary q)

      pub first_operand : IsExpression s w r.f1
      first_operand = operand_is r.f1 _ low_first two_types.0 two_types.2

      pub second_operand : IsExpression s w r.f2
      second_operand = operand_is r.f2 _ low_second two_types.1 two_types.3

      pub two_words : (l : ℕ) → work_of (eval_of s x st lo n (suc l)) ≡ then_work (work_of (eval_of s x st lo r.f1 l)) (λ a l. then_work (work_of (eval_of s x st lo r.f2 l)) (λ b l. binary_work (operator r) a b l))
      unfolding eval_in
      two_words l =
          ap work_of (visited binary q l)
          ∙ then_word_lem s two_types.0 (eval_of s x st lo r.f1 l) _ _ (operand_gives r.f1 _ low_first two_types.0 l two_types.2) (λ a m k i.
          then_word_lem s two_types.1 (eval_of s x st lo r.f2 m) _ _ (operand_gives r.f2 _ low_second two_types.1 m two_types.3) (λ b m' k' i'.
          binary_word (operator r) a b m' (not_stuck s e.kind (binary_val (operator r) a b m') (two_types.4 a b m' k k'))))

    -- no other operator is an expression
    pub other_stuck : is_expression_form (form_of (operator r)) ≡ false → ⊥
    unfolding eval_in work_of
    other_stuck h = go (form_of (operator r)) h refl
      where
        go : (F : Form) → is_expression_form F ≡ false → form_of (operator r) ≡ F → ⊥
        go literal h q = true_false refl h
        go read h q = true_false refl h
        go unary h q = true_false refl h
        go binary h q = true_false refl h
        go clock h q = true_false refl h
        go read_element h q = true_false refl h
        go skip h q = goes skip q 0 refl
        go assign h q = goes assign q 0 refl
        go external_send h q = goes external_send q 0 refl
        go internal_send h q = goes internal_send q 0 refl
        go arm h q = goes arm q 0 refl
        go clock_act h q = goes clock_act q 0 refl
        go call h q = goes call q 0 refl
        go choice h q = goes choice q 0 refl
        go loop h q = goes loop q 0 refl
        go sequence h q = goes sequence q 0 refl
        go assign_element h q = goes assign_element q 0 refl
        go unknown h q = goes unknown q 0 refl

  -- a visit that would pass the limit
  pub none_left : (n : ℕ) → work_of (eval_of s x st lo n 0) ≡ Err (Refused 10 0)
  unfolding work_of
  none_left n = ap work_of (eval_none s x st lo n)

  -- a node that is not there
  pub absent_stuck : (n l : ℕ) → record_of s nodes n ≡ None → work_of (eval_of s x st lo n (suc l)) ≡ Err Stuck
  unfolding on_record work_of
  absent_stuck n l h = ap work_of (eval_visit s x st lo n l ∙ ap (λ f. on_record f (λ r. eval_in s x st lo (eval_of s x st lo) r l (form_of (operator r)))) h)
