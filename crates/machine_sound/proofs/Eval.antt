-- An expression that has a type gives a value of it.
use Rattle.std.specs.Prelude.{Option, Some}
use Prim.Native.Nat.{ℕ, zero, suc, ◌+◌, ◌<◌, ◌≤◌}
use mathlib.Core.Path.{◌≡◌, refl, sym, ap, subst, ◌∙◌}
use mathlib.Core.List.{List}
use mathlib.Core.Bool.{Bool, true, false}
use native.Mathlib.Omega.{arith}
use lib.Dec.{ltb, eqb}
use lib.IntN.{ℤ, pos, negsuc}
use borrow.Author.Tests.{ltb-true, leb-true, eqb-true, lt-ltb, eq-eqb, ne_eqb, not-true}
use Rattle.sheet.specs.declared.Record.{Record}
use Rattle.sheet.specs.All.{◌and◌}
use Rattle.sheet.specs.Table.{look_up}
use Rattle.sheet.specs.Names
use Rattle.sheet.specs.Names.{nodes, chart_parameters, chart_variables, body_parameters, body_locals, operator, bool_type, int_type, is_clock}
use Rattle.sheet.specs.Sheet.{record_of}
use Rattle.sheet.proofs.All.{true_false, and_first, and_second, and-true, all-at}
use Rattle.machine.specs.declared.Value.{Value}
use Rattle.machine.specs.declared.Out.{Out}
use Rattle.sheet_rules.specs.declared.Typed.{Typed}
use Rattle.sheet_rules.specs.declared.Typed.TheVariants.{Expression}
use Rattle.sheet_rules.specs.declared.Checked.TheVariants.{Passed}
use Rattle.sheet_rules.specs.declared.Operands.{Operands}
use Rattle.sheet_rules.specs.Fields.{field_of, type_at, components_of}
use Rattle.sheet_rules.specs.Forms.{Form, literal, read, unary, binary, clock, read_element, skip, assign, external_send, internal_send, arm, clock_act, call, choice, loop, sequence, assign_element, unknown, form_of, operands_in, operands_of, operand_at, operand_count}
use Rattle.sheet_rules.specs.Shape.{chart_shape, variables_at, fields_shape, tree_shape, constant_shape, constants_shape}
use Rattle.sheet_rules.specs.DataTypes.{data_type_of}
use Rattle.sheet_rules.specs.Indices.{index_at, is_plain, cells_taken}
use Rattle.sheet_rules.specs.Types.{literal_type, variable_at, chart_variable_index, read_element_type, assign_element_type, read_type, clock_type, lower_type, type_in, type_step, type_of, assign_type, external_type, internal_type, arm_type, clock_act_type, call_type, choice_type, loop_type, sequence_type}
use Rattle.sheet_rules.specs.Static.{constant_static, constants_static}
use Rattle.machine.specs.Values.{fits32, is_below, is_zero, in_data_type, in_type, is_bound}
use Rattle.machine.specs.State.{cell_of, word_of}
use Rattle.machine.specs.Valid.{zero_words, running_clock, clock_cell, cell_fits}
use Rattle.machine.specs.Eval.{needs, on_record, val, not_val, literal_value, within, of_type, Context, is_variable, is_plain_variable, Reached, inside, out_of_range, unfit, reached, element_as, element_val, on_type, body_words, parameter_val, variable_at_cell, read_as, read_val, clock_word, clock_val, eval_in, eval_of}
use Rattle.sheet_rules.specs.Check.{check_of}
use Rattle.sheet_rules.specs.Bindings.{constant_binding}
use Rattle.sheet_rules.proofs.Fields.{holds-present}
use Rattle.sheet_rules.proofs.Bindings.{constant_inside}
use Rattle.sheet_rules.proofs.Types.{type_step_lem, lower_type_lem}
use Rattle.machine_equations.proofs.Eval.{eval_none, eval_visit}
use Rattle.machine_passed.specs.Places.{Placed, Locals, Cells}
use Rattle.machine_passed.proofs.Records.{held, chart-shape}
use Rattle.machine_passed.proofs.Charts.{element-constants, element_types}
use Rattle.machine_passed.proofs.Declared.{declared_record, declared_so_lem, chart-variable-declared, variable-declared}
use Rattle.machine_sound.specs.Gives.{Gives}
use Rattle.machine_passed.proofs.Indices.{has_cell, clock-plain}
use Rattle.machine_sound.proofs.Indices.{Leads, array_index, array_leads, array_data}
use Rattle.machine_sound.proofs.Locals.{few}
use Rattle.machine_sound.proofs.Leaves.{no_statement, not_wrong, one_type, asked, then, met, value-within, int_in, not_gives, binary-gives, literal_fine}

pub on-present : (f : Option Record) (r : Record) (K : Record → Out) → f ≡ Some r → on_record f K ≡ K r
unfolding on_record
on-present f r K e = rw e refl

-- a word that is 0 is in Bool and in Int
zero_is : (z : ℤ) → is_zero z ≡ true → z ≡ pos 0
unfolding is_zero
zero_is (pos k) e = ap pos (eqb-true k 0 e)
zero_is (negsuc k) e = absurd (true_false e refl)

module _ (s : List ℕ) (ok : check_of s ≡ Passed) (x : Context) (placed : Placed s x) (st lo : List ℤ) (cells : Cells s x st) (locals : Locals s x lo) where
  below-components : x.element < components_of s
  unfolding is_bound
  below-components = ltb-true _ _ (and_second _ _ placed.element.bound)

  pub few-parameters : (chart_parameters x.chart).count ≤ 14
  unfolding chart_shape
  few-parameters = leb-true _ _ (and_first _ _ (and_second _ _ (chart-shape s ok _ _ placed.element.chart)))

  -- ---- variables: each place holds a value of its declared type

  module _ (n t l : ℕ) where
    -- a chart parameter is the constant in the element's binding
    parameter_gives : n < (chart_parameters x.chart).count → type_at s ((chart_parameters x.chart).first + n) ≡ t → Gives s t (parameter_val s x n t l)
    unfolding parameter_val of_type constants_shape constant_shape constants_static constant_static
    parameter_gives h e =
        let b = held _ _ (all-at _ _ (element-constants s ok _ _ _ placed.element) n h) in
        let types = sym (holds-present _ _ _ b.1) ∙ all-at _ _ (element_types s ok _ _ _ placed.element) n h in
        let k = held _ _ b.2 in
        let q = sym (holds-present _ _ _ k.1) ∙ types in
        let f = literal_fine s x.element k.0 below-components (and_second _ _ k.2) in
        let same : literal_type k.0 ≡ t = eqb-true _ _ q ∙ e in
        met s t _ _ (constant_inside n (omega (arith, few-parameters)))
        (subst (Gives s t) (sym (on-present _ b.0 _ (ap (λ m. constant_binding s m n) placed.binding ∙ b.1) ∙ on-present _ k.0 _ k.1))
        (met s t _ _ (and_first _ _ k.2)
        (met s t _ _ (eq-eqb _ _ (f.0 ∙ same))
        (value-within s t _ l (f.0 ∙ same) (ap (λ u. in_type s u (literal_value x.element k.0).word) (sym same) ∙ f.1)))))

    -- each cell of a variable holds a value of its type
    variable-gives : (k : ℕ) → n < (chart_variables x.chart).count → k < cells_taken s ((chart_variables x.chart).first + n) → type_at s ((chart_variables x.chart).first + n) ≡ t → is_clock t ≡ false → Gives s t (within s (val t (word_of st (variable_at_cell s x n k))) l)
    unfolding variable_at_cell cell_fits
    variable-gives k h b e c = value-within s t _ l refl (and_first _ _ (rw (cell_fits, c) at (rw e at (cells n k h b))))

    local_gives : n < (body_parameters x.body).count + (body_locals x.body).count → type_at s (variable_at x.chart x.body Names.body_variable n) ≡ t → Gives s t (needs (ltb n body_words) (within s (val t (word_of lo n)) l))
    local_gives h e = met s t _ _ (lt-ltb n body_words (omega (arith, few s ok x placed))) (value-within s t _ l refl (rw e at (locals.holds n h)))

  pub no_place : (k : ℕ) → variables_at x.chart x.body (suc (suc (suc k))) ≡ 0
  unfolding variables_at
  no_place k = rw (variables_at, ne_eqb (suc (suc (suc k))) 0 (λ q. absurd (omega arith)), ne_eqb (suc (suc (suc k))) 1 (λ q. absurd (omega arith)), ne_eqb (suc (suc (suc k))) 2 (λ q. absurd (omega arith))) refl

  abbrev Reads : ℕ → ℕ → ℕ → Type 0
  Reads place n l =
      ltb n (variables_at x.chart x.body place) ≡ true →
      is_clock (type_at s (variable_at x.chart x.body place n)) ≡ false →
      is_plain (index_at s (variable_at x.chart x.body place n)) ≡ true →
      Gives s (type_at s (variable_at x.chart x.body place n)) (read_as s x st lo place n (type_at s (variable_at x.chart x.body place n)) l)

  read-gives : (place n l : ℕ) → Reads place n l
  unfolding read_as variable_at variables_at
  read-gives zero n l h c p = parameter_gives n _ l (ltb-true _ _ h) refl
  read-gives (suc zero) n l h c p = variable-gives n _ l 0 (ltb-true _ _ h) (has_cell s _ p) refl c
  read-gives (suc (suc zero)) n l h c p = local_gives n _ l (ltb-true _ _ h) refl
  read-gives (suc (suc (suc k))) n l h c p = absurd (let z = ltb-true n 0 (rw (no_place k) at h) in omega arith)

  -- its declaration is there
  read-declared : (place n l : ℕ) → ltb n (variables_at x.chart x.body place) ≡ true → is_clock (type_at s (variable_at x.chart x.body place n)) ≡ false → is_plain (index_at s (variable_at x.chart x.body place n)) ≡ true → Gives s (type_at s (variable_at x.chart x.body place n)) (on_type s (variable_at x.chart x.body place n) (λ t. read_as s x st lo place n t l))
  read-declared place n l h c p =
      let d = declared_record s _ (variable-declared s ok _ _ placed.element.chart x.body placed.body place n (ltb-true _ _ h)) in
      subst (Gives s _) (sym (on-present _ d.0 _ d.1 ∙ ap (λ t. read_as s x st lo place n t l) d.2)) (read-gives place n l h c p)

  -- ---- clocks: 17 its running word, 18 its value

  module _ (n : ℕ) (h : n < (chart_variables x.chart).count) (c : is_clock (type_at s ((chart_variables x.chart).first + n)) ≡ true) where
    cell : clock_cell s x.element (type_at s ((chart_variables x.chart).first + n)) st (cell_of s x.element x.chart n 0) ≡ true
    unfolding cell_fits
    cell = rw (cell_fits, c) at (cells n 0 h (has_cell s _ (clock-plain s ok _ c)))

    running_in : in_type s bool_type (word_of st (variable_at_cell s x n 0)) ≡ true
    unfolding variable_at_cell clock_cell in_type in_data_type data_type_of look_up is_below
    running_in = go (is_zero (word_of st (cell_of s x.element x.chart n 0))) refl cell
      where
        at : ℕ
        at = cell_of s x.element x.chart n 0

        go : (b : Bool) → is_zero (word_of st at) ≡ b → elim b [ true ↦ zero_words st at 1 | false ↦ is_below (word_of st at) 2 and running_clock s x.element (type_at s ((chart_variables x.chart).first + n)) st at ] ≡ true → is_below (word_of st at) 2 ≡ true
        go true e q = rw (zero_is (word_of st at) e) refl
        go false e q = and_first _ _ q

    abbrev at : ℕ
    at = cell_of s x.element x.chart n 0

    -- a stopped clock's value is 0
    stopped_value : zero_words st at 1 ≡ true → word_of st (at + 1) ≡ pos 0
    unfolding zero_words
    stopped_value q = let i : at + 1 + 0 ≡ at + 1 = omega arith in zero_is _ (subst (λ i. is_zero (word_of st i) ≡ true) i (all-at 7 (λ k. is_zero (word_of st (at + 1 + k))) q 0 (omega arith)))

    pub clock_word_lem : clock_word s x st n ≡ word_of st (at + 1)
    unfolding clock_word variable_at_cell clock_cell
    clock_word_lem = go (is_zero (word_of st at)) cell
      where
        go : (b : Bool) → elim b [ true ↦ zero_words st at 1 | false ↦ is_below (word_of st at) 2 and running_clock s x.element (type_at s ((chart_variables x.chart).first + n)) st at ] ≡ true → ◌≡◌ {A = ℤ} (elim b [ true ↦ pos 0 | false ↦ word_of st (at + 1) ]) (word_of st (at + 1))
        go true q = sym (stopped_value q)
        go false q = refl

    value_in : in_type s int_type (clock_word s x st n) ≡ true
    unfolding clock_cell running_clock in_type in_data_type data_type_of look_up fits32
    value_in = ap (in_type s int_type) clock_word_lem ∙ go (is_zero (word_of st at)) cell
      where
        go : (b : Bool) → elim b [ true ↦ zero_words st at 1 | false ↦ is_below (word_of st at) 2 and running_clock s x.element (type_at s ((chart_variables x.chart).first + n)) st at ] ≡ true → in_type s int_type (word_of st (at + 1)) ≡ true
        go true q = rw (stopped_value q) refl
        go false q = int_in s (word_of st (at + 1)) (and_first _ _ (and_second _ _ q))

  clock-gives : (op n t l : ℕ) → n < (chart_variables x.chart).count → is_clock (type_at s ((chart_variables x.chart).first + n)) ≡ true → elim (eqb op 17) [ true ↦ bool_type | false ↦ int_type ] ≡ t → Gives s t (clock_val s x st op n l)
  unfolding clock_val is_plain_variable is_variable
  clock-gives op n t l h c e = met s t _ _ (and-true _ _ (and-true _ _ (lt-ltb _ _ h) (declared_so_lem s _ is_clock (chart-variable-declared s ok _ _ placed.element.chart n h) ∙ c)) (clock-plain s ok _ c)) (go (eqb op 17) e)
    where
      go : (b : Bool) → elim b [ true ↦ bool_type | false ↦ int_type ] ≡ t → Gives s t (elim b [ true ↦ within s (val bool_type (word_of st (variable_at_cell s x n 0))) l | false ↦ within s (val int_type (clock_word s x st n)) l ])
      go true q = subst (λ u. Gives s u (within s (val bool_type (word_of st (variable_at_cell s x n 0))) l)) q (value-within s bool_type _ l refl (running_in n h c))
      go false q = subst (λ u. Gives s u (within s (val int_type (clock_word s x st n)) l)) q (value-within s int_type _ l refl (value_in n h c))

  -- ---- elements of arrays

  module _ (n l : ℕ) (h : n < (chart_variables x.chart).count) (c : is_clock (type_at s ((chart_variables x.chart).first + n)) ≡ false) where
    reached-gives : (i : Reached) → Leads (cells_taken s ((chart_variables x.chart).first + n)) i → Gives s (type_at s ((chart_variables x.chart).first + n)) (element_as s x st n (type_at s ((chart_variables x.chart).first + n)) i l)
    unfolding element_as
    reached-gives (inside k) b = variable-gives n _ l k h b refl c
    reached-gives out_of_range b = (omega arith, omega arith)
    reached-gives unfit b = absurd b

    pub element-gives : (v : Value) → Leads (cells_taken s ((chart_variables x.chart).first + n)) (reached (chart_variable_index s x.chart n) v) → Gives s (type_at s ((chart_variables x.chart).first + n)) (element_val s x st n v l)
    unfolding element_val
    element-gives v b =
        let d = declared_record s _ (chart-variable-declared s ok _ _ placed.element.chart n h) in
        met s _ _ _ (lt-ltb _ _ h)
        (subst (Gives s _) (sym (on-present _ d.0 _ d.1 ∙ ap (λ t. element_as s x st n t (reached (chart_variable_index s x.chart n) v) l) d.2)) (reached-gives (reached (chart_variable_index s x.chart n) v) b))

  -- ---- a node, where its operands give values of their types

  module _ (f : ℕ → Typed) (g : ℕ → ℕ → Out) (r : Record) where
    abbrev Operand : ℕ → Type 0
    Operand m = (l u : ℕ) → f m ≡ Expression u → Gives s u (g m l)

    abbrev OperandsGive : Operands → Type 0
    OperandsGive o = (j : ℕ) → j < operand_count o → Operand (operand_at r o j)

    act_gives : (F : Form) (t l : ℕ) → fields_shape s x.chart x.body r F ≡ true → OperandsGive (operands_in s x.chart r F) → type_in s x.chart x.body f r F ≡ Expression t → Gives s t (eval_in s x st lo g r l F)
    unfolding fields_shape operands_in operand_at field_of type_in eval_in read_type read_val read_element_type clock_type assign_type assign_element_type external_type internal_type arm_type clock_act_type call_type choice_type loop_type sequence_type
    act_gives literal t l h o e =
        let k = literal_fine s x.element r below-components h in
        let q = one_type e in
        value-within s t _ l (k.0 ∙ q) (ap (λ u. in_type s u (literal_value x.element r).word) (sym q) ∙ k.1)
    act_gives read t l h o e =
        let a = asked _ _ e in
        subst (λ u. Gives s u (read_val s x st lo r.f1 r.f2 l)) (one_type a.1)
        (met s _ _ _ (and-true _ _ (and_first _ _ h) (and_second _ _ a.0)) (read-declared r.f1 r.f2 l (and_first _ _ h) (not-true _ (and_first _ _ a.0)) (and_second _ _ a.0)))
    act_gives unary t l h o e =
        let n = not_gives s t (f r.f1) e in
        then s t bool_type (g r.f1 l) not_val (o 0 (omega arith) l bool_type n.0) (λ v l k w. n.1 v l k)
    act_gives binary t l h o e =
        let b = binary-gives s (operator r) t (f r.f1) (f r.f2) e in
        then s t b.0 (g r.f1 l) _ (o 0 (omega arith) l b.0 b.2) (λ v l k w.
        then s t b.1 (g r.f2 l) _ (o 1 (omega arith) l b.1 b.3) (λ v' l k' w'.
        b.4 v v' l k k'))
    act_gives clock t l h o e =
        let a = asked _ _ e in
        clock-gives (operator r) r.f1 t l (ltb-true _ _ (and_first _ _ h)) a.0 (one_type a.1)
    act_gives read_element t l h o e =
        let a = asked _ _ e in
        let i = array_index s _ (f r.f2) a.0 in
        then s t i.kind (g r.f2 l) _ (o 0 (omega arith) l i.kind i.typed) (λ v l k w.
        subst (λ u. Gives s u (element_val s x st r.f1 v l)) (one_type a.1) (element-gives r.f1 l (ltb-true _ _ (and_first _ _ h)) (array_data s ok _ (f r.f2) a.0) v (array_leads s _ (f r.f2) a.0 v k w)))
    act_gives skip t l h o e = no_statement e
    act_gives assign t l h o e = no_statement (asked _ _ e).1
    act_gives external_send t l h o e = no_statement (asked _ _ e).1
    act_gives internal_send t l h o e = no_statement (asked _ _ e).1
    act_gives arm t l h o e = no_statement (asked _ _ e).1
    act_gives clock_act t l h o e = no_statement (asked _ _ e).1
    act_gives call t l h o e = no_statement (asked _ _ e).1
    act_gives choice t l h o e = no_statement (asked _ _ e).1
    act_gives loop t l h o e = no_statement (asked _ _ e).1
    act_gives sequence t l h o e = no_statement (asked _ _ e).1
    act_gives assign_element t l h o e = no_statement (asked _ _ e).1
    act_gives unknown t l h o e = not_wrong e

  pub type_at_lem : (n : ℕ) (r : Record) → record_of s nodes n ≡ Some r → type_of s x.chart x.body n ≡ type_in s x.chart x.body (lower_type n (type_of s x.chart x.body)) r (form_of (operator r))
  unfolding type_step
  type_at_lem n r e = type_step_lem s x.chart x.body n ∙ rw (type_step, e) refl

  -- an expression of type t in a tree of at most k levels
  pub eval_gives : (k n t l : ℕ) → tree_shape s x.chart x.body k n ≡ true → type_of s x.chart x.body n ≡ Expression t → Gives s t (eval_of s x st lo n l)
  unfolding tree_shape operands_of
  eval_gives zero n t l h e = absurd (true_false h refl)
  eval_gives (suc k) n t zero h e = subst (Gives s t) (sym (eval_none s x st lo n)) (omega arith, omega arith)
  eval_gives (suc k) n t (suc l) h e =
      let d = held _ _ h in
      let r = d.0 in
      subst (Gives s t) (sym (eval_visit s x st lo n l ∙ on-present _ r _ d.1))
      (act_gives (lower_type n (type_of s x.chart x.body)) (eval_of s x st lo) r (form_of (operator r)) t l (and_first _ _ d.2)
      (λ j q m u z.
      let a = all-at _ _ (and_second _ _ d.2) j q in
      let low = ltb-true _ _ (and_first _ _ a) in
      eval_gives k _ u m (and_second _ _ a) (sym (lower_type_lem n _ (type_of s x.chart x.body) low) ∙ z))
      (sym (type_at_lem n r d.1) ∙ e))
