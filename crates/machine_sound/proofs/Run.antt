-- A statement on a passed sheet is not stuck, and leaves a state of the sheet.
use Rattle.std.specs.Prelude.{Option, Some, None}
use Prim.Native.Nat.{ℕ, zero, suc, ◌+◌, ◌-◌, ◌<◌, ◌≤◌}
use mathlib.Core.Path.{◌≡◌, refl, sym, ap, subst, ◌∙◌}
use mathlib.Core.List.{List}
use mathlib.Core.Bool.{Bool, true, false, not}
use native.Mathlib.Omega.{arith}
use lib.Dec.{ltb, leb, eqb}
use lib.IntN.{ℤ, pos}
use lib.Signed.{le_z}
use borrow.Author.Tests.{ltb-true, leb-true, eqb-true, lt-ltb, le-ltb, lt-leb, eq-eqb, ne_eqb}
use Rattle.sheet.specs.declared.Record.{Record}
use Rattle.sheet.specs.declared.Range.{Range}
use Rattle.sheet.specs.All.{◌and◌}
use Rattle.sheet.specs.Table.{look_up}
use Rattle.sheet.specs.Names
use Rattle.sheet.specs.Names.{declarations, names, bodies, data_of, external, internal, chart_variables, chart_bodies, root, body_parameters, body_locals, operator, bool_type, int_type, component_type, port_type, timer_type, is_clock}
use Rattle.sheet.specs.Sheet.{count_of, record_of}
use Rattle.sheet.proofs.All.{true_false, and_first, and_second, and-true, and-false, all-at}
use Rattle.machine.specs.declared.Value.{Value}
use Rattle.sheet_rules.specs.declared.Typed.{Typed}
use Rattle.sheet_rules.specs.declared.Typed.TheVariants.{Expression, Statement, Wrong}
use Rattle.sheet_rules.specs.declared.Checked.TheVariants.{Passed}
use Rattle.sheet_rules.specs.declared.Operands.{Operands}
use Rattle.machine.specs.declared.Ran.{Ran}
use Rattle.machine.specs.declared.Ran.TheVariants.{Done, Refused, Stuck}
use Rattle.sheet_rules.specs.Fields.{field_of, type_at}
use Rattle.sheet_rules.specs.Forms.{Form, literal, read, unary, binary, clock, read_element, skip, assign, external_send, internal_send, arm, clock_act, call, choice, loop, sequence, assign_element, unknown, form_of, name_data, called_body, call_data, operands, operands_in, operands_of, operand_at, operand_count, Binary, both, equal, less, plus, minus, times, div, modulo, binary_of}
use Rattle.sheet_rules.specs.Shape.{body_shape, variables_at, send_shape, fields_shape, tree_shape}
use Rattle.sheet_rules.specs.DataTypes.{data_type_of}
use Rattle.sheet_rules.specs.Indices.{index_at, is_plain, cells_taken}
use Rattle.sheet_rules.specs.Types.{given, is_of, is_statement, chart_variable_type, variable_at, internal_name, name_range, parameters_of, clock_of, data_match, lower_type, read_type, clock_type, not_type, of_ints, combined_type, binary_type, assign_type, read_element_type, assign_element_type, chart_variable_index, external_type, internal_type, arm_type, clock_act_type, call_type, choice_type, loop_type, sequence_type, type_in, type_of}
use Rattle.sheet_rules.specs.Static.{body_static}
use Rattle.machine.specs.Values.{is_zero, in_data_type, in_type, chart_of}
use Rattle.machine.specs.State.{cell_of}
use Rattle.machine.specs.Valid.{name_fits, reaction_awaits, OfSheet}
use Rattle.machine.specs.Eval.{Context, is_variable, is_plain_variable, body_words, variable_at_cell, Reached, inside, out_of_range, unfit, reached, eval_of}
use Rattle.machine.specs.Run.{World, values_from, then_values, are_of, words_in, datum, locals_of, armed, clock_set, in_body, assigned, has_variable, assign_of, element_assigned, assign_element_of, name_values, external_send_of, internal_send_of, arm_of, clock_act_of, entered, call_of, choice_of, run_in, run_of, open_calls}
use Rattle.sheet_rules.specs.Check.{check_of}
use Rattle.sheet_rules.proofs.Fields.{number-present}
use Rattle.sheet_rules.proofs.Types.{lower_type_lem}
use Rattle.machine_equations.proofs.Left.{eval_left, values_left_lem, run-left}
use Rattle.machine_equations.proofs.Run.{run_none, run-visit}
use Rattle.machine_passed.specs.Places.{InChart, Placed, Locals, Cells}
use Rattle.machine_passed.proofs.Records.{held, body-shape}
use Rattle.machine_passed.proofs.Declared.{declared_so_lem, name-declared, chart-variable-declared, parameter_declared, locals-there, variable-declared}
use Rattle.machine_passed.proofs.Charts.{element-chart, body-static, body-tree}
use Rattle.machine_states.proofs.Parts.{cell_of_lem}
use Rattle.machine_states.proofs.Kept.{data_set}
use Rattle.machine_states.proofs.Telegrams.{own_telegram, sent-telegram}
use Rattle.machine_states.proofs.Acts.{armed_kept, stopped_kept, started-kept}
use Rattle.machine_sound.specs.Gives.{Gives, WordsOf, DataGive, Ends}
use Rattle.machine_passed.proofs.Indices.{has_cell, clock-plain}
use Rattle.machine_sound.proofs.Leaves.{is_type_lem}
use Rattle.machine_sound.proofs.Indices.{Leads, array_index, array_leads}
use Rattle.machine_sound.proofs.Eval.{no_place, type_at_lem, eval_gives}
use Rattle.machine_sound.proofs.Data.{data_gives, range_of, few_data, name-fits, awaited}
use Rattle.machine_sound.proofs.Locals.{few, fresh_locals, local_set}
use Rattle.machine_sound.proofs.Armed.{armed-clock}
use Rattle.machine_sound.proofs.Then.{Good, operand_ends, values_ends, run_ends, record_ends, provided_ends, either_ends, append_ends, kept_ends}

-- ---- what the type of a statement says

kind_number : Typed → ℕ
kind_number (Expression t) = 1
kind_number Statement = 0
kind_number Wrong = 2

no_expression : {t : ℕ} {X : Type 0} → Expression t ≡ Statement → X
unfolding kind_number
no_expression e = absurd (let z = ap kind_number e in omega arith)

not_wrong : {X : Type 0} → Wrong ≡ Statement → X
unfolding kind_number
not_wrong e = absurd (let z = ap kind_number e in omega arith)

no_value : (b : Bool) (t : ℕ) {X : Type 0} → given b (Expression t) ≡ Statement → X
unfolding given
no_value true t e = no_expression e
no_value false t e = not_wrong e

pub stated : (b : Bool) → given b Statement ≡ Statement → b ≡ true
unfolding given
stated true e = refl
stated false e = not_wrong e

pub is_statement_lem : (y : Typed) → is_statement y ≡ true → y ≡ Statement
unfolding is_statement
is_statement_lem (Expression t) e = absurd (true_false e refl)
is_statement_lem Statement e = refl
is_statement_lem Wrong e = absurd (true_false e refl)

no_binary : (o : Binary) (y z : Typed) {X : Type 0} → combined_type o y z ≡ Statement → X
unfolding combined_type of_ints
no_binary both y z e = no_value _ _ e
no_binary equal y z e = no_value _ _ e
no_binary less y z e = no_value _ _ e
no_binary plus y z e = no_value _ _ e
no_binary minus y z e = no_value _ _ e
no_binary times y z e = no_value _ _ e
no_binary div y z e = no_value _ _ e
no_binary modulo y z e = no_value _ _ e

-- the body that a call names stands in the chart
pub called_in : (s : List ℕ) (c r b : Record) → called_body s c r ≡ Some b → InChart s c b
unfolding called_body
called_in s c r b e = go (ltb r.f1 (chart_bodies c).count) refl e
  where
    go : (t : Bool) → ltb r.f1 (chart_bodies c).count ≡ t → ◌≡◌ {A = Option Record} (elim t [ true ↦ record_of s bodies ((chart_bodies c).first + r.f1) | false ↦ None ]) (Some b) → InChart s c b
    go true q h = record { number = r.f1; below = ltb-true _ _ q; there = h }
    go false q h = absurd (true_false {b = false} (ap present h) refl)
      where
        present : Option Record → Bool
        present (Some a) = true
        present None = false

-- a body has at most four parameters
pub few-parameters : (s : List ℕ) → check_of s ≡ Passed → (b c : Record) → InChart s c b → (body_parameters b).count ≤ 4
unfolding body_shape
few-parameters s ok b c i = leb-true _ _ (and_first _ _ (and_second _ _ (and_second _ _ (and_second _ _ (body-shape s ok _ b i.there)))))

pub parameters_of_lem : (f : Option Record) (b : Record) → f ≡ Some b → parameters_of f ≡ body_parameters b
unfolding parameters_of
parameters_of_lem f b e = rw e refl

-- the caller's variables are as they were
back : (s : List ℕ) (x y : Context) (o : Ran) (st lo lo' : List ℤ) → Ends s y o st lo' → Locals s x lo → Ends s x o st lo
back s x y (Done m) st lo lo' h k = (h.0, k)
back s x y (Refused n m) st lo lo' h k = h
back s x y Stuck st lo lo' h k = h

-- a value's type is no clock
not_clock : (s : List ℕ) (t : ℕ) (z : ℤ) → in_type s t z ≡ true → is_clock t ≡ false
unfolding in_type in_data_type data_type_of look_up is_clock ◌and◌
not_clock s zero z h = refl
not_clock s (suc zero) z h = refl
not_clock s (suc (suc zero)) z h = refl
not_clock s (suc (suc (suc zero))) z h = refl
not_clock s (suc (suc (suc (suc zero)))) z h = absurd (true_false h refl)
not_clock s (suc (suc (suc (suc (suc zero))))) z h = absurd (true_false h refl)
not_clock s (suc (suc (suc (suc (suc (suc zero)))))) z h = absurd (true_false h refl)
not_clock s (suc (suc (suc (suc (suc (suc (suc t))))))) z h = and-false (leb 4 (suc (suc (suc (suc (suc (suc (suc t)))))))) _ (lt-leb (suc (suc (suc (suc (suc (suc (suc t))))))) 6 (omega arith))

pub timer_clock : {t : ℕ} → t ≡ timer_type → is_clock t ≡ true
unfolding is_clock ◌and◌
timer_clock e = ap is_clock e

module _ (s : List ℕ) (ok : check_of s ≡ Passed) where
  -- what is said of every statement with at most L steps left
  abbrev Steps : ℕ → Type 0
  Steps L = (depth : ℕ) (x : Context) (n m k : ℕ) (st lo : List ℤ) → m ≤ L → Placed s x → OfSheet s st → Locals s x lo → tree_shape s x.chart x.body k n ≡ true → type_of s x.chart x.body n ≡ Statement → Good s x (run_of s depth x n m st lo)

  module _ (x : Context) (placed : Placed s x) (st lo : List ℤ) (o : OfSheet s st) (locals : Locals s x lo) where
    there : chart_of s x.element ≡ Some x.chart
    there = element-chart s x.element placed.bound x.chart placed.element

    cells : Cells s x st
    cells j k l m = cell_of_lem s st o x.element x.chart there j l k m

    -- a variable that the body has, of the type that its declaration says
    pub variable-there : (place n t : ℕ) → ltb n (variables_at x.chart x.body place) ≡ true → t ≡ type_at s (variable_at x.chart x.body place n) → is_plain (index_at s (variable_at x.chart x.body place n)) ≡ true → has_variable s x place n t ≡ true
    unfolding has_variable variables_at
    variable-there place n t h e p = and-true _ _ h (and-true _ _ (worded place h) (and-true _ _ (declared_so_lem s _ (eqb t) (variable-declared s ok _ _ placed.element.chart x.body placed.body place n (ltb-true _ _ h)) ∙ eq-eqb _ _ e) p))
      where
        worded : (place : ℕ) → ltb n (variables_at x.chart x.body place) ≡ true → ◌≡◌ {A = Bool} (elim (eqb place Names.body_variable) [ true ↦ ltb n body_words | false ↦ true ]) true
        worded zero h = refl
        worded (suc zero) h = refl
        worded (suc (suc zero)) h = lt-ltb n body_words (let l : n < (body_parameters x.body).count + (body_locals x.body).count = ltb-true _ _ h in omega (arith, few s ok x placed))
        worded (suc (suc (suc k))) h = rw (ne_eqb (suc (suc (suc k))) 2 (λ q. absurd (omega arith))) refl

    pub chart-variable-there : (n : ℕ) (p : ℕ → Bool) → ltb n (chart_variables x.chart).count ≡ true → p (type_at s ((chart_variables x.chart).first + n)) ≡ true → is_variable s x n p ≡ true
    unfolding is_variable
    chart-variable-there n p h e = and-true _ _ h (declared_so_lem s _ p (chart-variable-declared s ok _ _ placed.element.chart n (ltb-true _ _ h)) ∙ e)

    pub clock-there : (n : ℕ) (p : ℕ → Bool) → ltb n (chart_variables x.chart).count ≡ true → p (type_at s ((chart_variables x.chart).first + n)) ≡ true → is_clock (type_at s ((chart_variables x.chart).first + n)) ≡ true → is_plain_variable s x n p ≡ true
    unfolding is_plain_variable
    clock-there n p h e c = and-true _ _ (chart-variable-there n p h e) (clock-plain s ok _ c)

    assign_ends : (place n l : ℕ) (z : ℤ) → not (eqb place 0) ≡ true → ltb n (variables_at x.chart x.body place) ≡ true → is_plain (index_at s (variable_at x.chart x.body place n)) ≡ true → in_type s (type_at s (variable_at x.chart x.body place n)) z ≡ true → Good s x (assigned s x place n z l st lo)
    unfolding assigned variable_at variables_at variable_at_cell
    assign_ends zero n l z a h p t = absurd (true_false a refl)
    assign_ends (suc zero) n l z a h p t = (data_set s st o x.element x.chart there n (ltb-true _ _ h) 0 (has_cell s _ p) z (not_clock s _ z t) t, locals)
    assign_ends (suc (suc zero)) n l z a h p t = (o, local_set s ok x placed lo locals n z (ltb-true _ _ h) t)
    assign_ends (suc (suc (suc k))) n l z a h p t = absurd (let q = ltb-true n 0 (rw (no_place s ok x placed st lo cells locals k) at h) in omega arith)

    -- a value to a cell of an array; "11, index outside its number"
    element_ends : (n l : ℕ) (z : ℤ) → n < (chart_variables x.chart).count → in_type s (type_at s ((chart_variables x.chart).first + n)) z ≡ true → (i : Reached) → Leads (cells_taken s ((chart_variables x.chart).first + n)) i → Good s x (element_assigned s x n i z l st lo)
    unfolding element_assigned variable_at_cell
    element_ends n l z h t (inside k) b = (data_set s st o x.element x.chart there n h k b z (not_clock s _ z t) t, locals)
    element_ends n l z h t out_of_range b = (omega arith, omega arith)
    element_ends n l z h t unfit b = absurd b

    -- ---- a node, in a tree whose operands have at most k levels

    module _ (n k : ℕ) (r : Record) where
      abbrev Lower : Operands → Type 0
      Lower ops = (j : ℕ) → j < operand_count ops → ltb (operand_at r ops j) n and tree_shape s x.chart x.body k (operand_at r ops j) ≡ true

      abbrev f : ℕ → Typed
      f = lower_type n (type_of s x.chart x.body)

      -- an operand m that is lower
      module _ (m : ℕ) (low : ltb m n and tree_shape s x.chart x.body k m ≡ true) where
        typed_of_lem : (y : Typed) → f m ≡ y → type_of s x.chart x.body m ≡ y
        typed_of_lem y e = sym (lower_type_lem n m (type_of s x.chart x.body) (ltb-true _ _ (and_first _ _ low))) ∙ e

        operand_gives : (t l : ℕ) → is_of (f m) t ≡ true → Gives s t (eval_of s x st lo m l)
        operand_gives t l e = eval_gives s ok x placed st lo cells locals k m t l (and_second _ _ low) (typed_of_lem _ (is_type_lem (f m) t e))

      -- the data of a node stand behind c operands
      data_operand : (first c tail i : ℕ) → operand_at r (operands first c tail) (c + i) ≡ field_of r (4 + i)
      unfolding operand_at
      data_operand first c tail i = let q = le-ltb (c + i) c (omega arith) in let e : c + i - c ≡ i = omega arith in rw (operand_at, q, e) refl

      data_end_lem : (first c : ℕ) (g : Range) (l : ℕ) → Lower (operands first c g.count) → data_match s f g r ≡ true → g.count ≤ 4 → ((j : ℕ) → j < g.count → g.first + j < count_of s declarations) → DataGive s g g.count 0 (values_from (eval_of s x st lo) r g.count 0 l)
      unfolding data_match
      data_end_lem first c g l lower d small declared = data_gives s g (eval_of s x st lo) r g.count 0 l (omega arith) (λ i q. let z : 0 + i ≡ i = omega arith in rw z (declared i q)) (λ i m q.
          let z : 0 + i ≡ i = omega arith in
          let e = data_operand first c g.count i in
          rw z (operand_gives (field_of r (4 + i)) (subst (λ m. ltb m n and tree_shape s x.chart x.body k m ≡ true) e (lower (c + i) (omega arith))) (type_at s (g.first + i)) m (all-at g.count (λ j. is_of (f (field_of r (4 + j))) (type_at s (g.first + j))) d i q)))

      module _ (depth L : ℕ) (ih : Steps L) (whole : tree_shape s x.chart x.body (suc k) n ≡ true) (typed : type_of s x.chart x.body n ≡ Statement) where
        -- a statement below
        below_ends : (m l : ℕ) (st lo : List ℤ) → OfSheet s st → Locals s x lo → l ≤ L → ltb m n and tree_shape s x.chart x.body k m ≡ true → is_statement (f m) ≡ true → Good s x (run_of s depth x m l st lo)
        below_ends m l st lo o locals q low e = ih depth x m l k st lo q placed o locals (and_second _ _ low) (typed_of_lem m low Statement (is_statement_lem (f m) e))

        -- the name of a send or an arming
        module _ (l : ℕ) (q : l ≤ L) (shape : send_shape s r ≡ true) (d : data_match s f (name_range s r.f3) r ≡ true) where
          named : (a : Record) × (record_of s names r.f3 ≡ Some a) × (name_range s r.f3 ≡ data_of a) × (name_data s r ≡ (data_of a).count)
          unfolding send_shape name_data
          named = let h = held _ _ shape in (h.0, h.1, range_of s r.f3 h.0 h.1, number-present _ _ _ h.1)

          abbrev a : Record
          a = named.0

          -- the data, and what is sent with them
          name_ends : (first c m : ℕ) → Lower (operands first c (name_data s r)) → m ≤ l → (K : List Value → ℕ → World) → ((vs : List Value) (m : ℕ) → are_of s (data_of a).first vs ≡ true → WordsOf s (data_of a) (data_of a).count 0 (words_in vs) → m ≤ l → Good s x (K vs m)) → Good s x (then_values (name_values s x a r m st lo) st lo K)
          unfolding name_values
          name_ends first c m lower p K h =
              values_ends s x (data_of a) (data_of a).count m _ st lo K
              (data_end_lem first c (data_of a) m (subst (λ t. Lower (operands first c t)) named.3 lower) (subst (λ g. data_match s f g r ≡ true) named.2 d) (few_data s ok r.f3 a named.1) (name-declared s ok r.f3 a named.1))
              (values_left_lem s x st lo r (data_of a).count 0 m)
              (λ vs m' g v w. h vs m' g v (omega arith))

        -- "period below 1": 7
        armed_ends : (j : ℕ) (h : j < (chart_variables x.chart).count) (op : ℕ) → form_of op ≡ arm → type_at s ((chart_variables x.chart).first + j) ≡ clock_of op → (period : ℤ) → in_type s int_type period ≡ true → (name : ℕ) (zs : List ℤ) (l : ℕ) → name_fits s internal (pos name) (datum zs) ≡ true → reaction_awaits s x.element (pos name) ≡ true → Good s x (armed (cell_of s x.element x.chart j 0) (clock_of op) period name zs l st lo)
        unfolding armed in_type in_data_type data_type_of look_up
        armed_ends j h op g t period w name zs l a b =
            let c = armed-clock op g in
            subst (λ u. Good s x (armed (cell_of s x.element x.chart j 0) u period name zs l st lo)) t
            (kept_ends s x (le_z (pos 1) period) l 7 st _ lo (armed_kept s st o x.element x.chart there j h (has_cell s _ (clock-plain s ok _ (ap is_clock t ∙ c.0))) (ap is_clock t ∙ c.0) (ap (λ u. eqb u timer_type) t ∙ c.1) period w name zs a b l lo) locals (omega arith, omega arith))

        -- "a 17th open call": 9
        entered_ends : (b : Record) → InChart s x.chart b → (zs : List ℤ) (l : ℕ) → WordsOf s (body_parameters b) (body_parameters b).count 0 zs → l ≤ L → Good s x (entered s x (run_of s) depth b zs l st lo)
        unfolding entered body_static
        entered_ends b i zs l v q =
            let there : Placed s (in_body x b) = record { bound = placed.bound; element = placed.element; binding = placed.binding; body = i } in
            let w : World = run_of s (depth + 1) (in_body x b) (root b) l st (locals_of s b zs) in
            either_ends s x (ltb depth open_calls) _ _
            (λ p. provided_ends s x _ st lo _ (locals-there s ok _ x.chart placed.element.chart b i) (back s x (in_body x b) w.ran w.st lo w.lo (ih (depth + 1) (in_body x b) (root b) l 64 st (locals_of s b zs) q there o
            (fresh_locals s ok (in_body x b) there zs (λ i h. let z : 0 + i ≡ i = omega arith in rw z at (v.1 i h)))
            (body-tree s ok _ x.chart placed.element.chart b i)
            (is_statement_lem _ (and_second _ _ (and_second _ _ (and_second _ _ (body-static s ok _ x.chart placed.element.chart b i)))))) locals))
            (λ p. (omega arith, omega arith))

        act_ends : (F : Form) (l : ℕ) → l ≤ L → form_of (operator r) ≡ F → fields_shape s x.chart x.body r F ≡ true → Lower (operands_in s x.chart r F) → type_in s x.chart x.body f r F ≡ Statement → Good s x (run_in s x (run_of s) depth n r l st lo F)
        unfolding fields_shape operands_in operand_at field_of type_in run_in read_type not_type binary_type clock_type assign_type read_element_type assign_element_type external_type internal_type internal_name arm_type clock_act_type call_type choice_type loop_type sequence_type assign_of assign_element_of external_send_of internal_send_of arm_of clock_act_of call_of choice_of call_data variable_at_cell clock_set in_type in_data_type data_type_of look_up
        act_ends literal l q g h low e = no_expression e
        act_ends read l q g h low e = no_value _ _ e
        act_ends unary l q g h low e = no_value _ _ e
        act_ends binary l q g h low e = no_binary (binary_of (operator r)) (f r.f1) (f r.f2) e
        act_ends clock l q g h low e = no_value _ _ e
        act_ends read_element l q g h low e = no_value _ _ e
        act_ends skip l q g h low e = (o, locals)
        act_ends assign l q g h low e =
            let t = stated _ e in
            let inside = and_first _ _ h in
            operand_ends s x _ _ l st lo _ (operand_gives _ (low 0 (omega arith)) _ l (and_second _ _ (and_second _ _ t))) (eval_left s x st lo _ l) (λ v m k w p.
            provided_ends s x _ st lo _ (variable-there r.f1 r.f2 v.kind inside k (and_first _ _ (and_second _ _ t)))
            (assign_ends r.f1 r.f2 m v.word (and_first _ _ t) inside (and_first _ _ (and_second _ _ t)) w))
        act_ends external_send l q g h low e =
            let t = stated _ e in
            let d = and_second _ _ (and_second _ _ (and_second _ _ t)) in
            let name = named l q h d in
            operand_ends s x _ component_type l st lo _ (operand_gives _ (low 0 (omega arith)) _ l (and_first _ _ t)) (eval_left s x st lo _ l) (λ receiver m k w p.
            operand_ends s x _ port_type m st lo _ (operand_gives _ (low 1 (omega arith)) _ m (and_first _ _ (and_second _ _ t))) (eval_left s x st lo _ m) (λ port m' k' w' p'.
            record_ends s x _ name.0 st lo _ name.1
            (name_ends l q h d 1 2 m' low (omega arith) _ (λ vs m'' are v p''.
            provided_ends s x _ st lo _ (and-true _ _ (eq-eqb _ _ k) (and-true _ _ (eq-eqb _ _ k') are))
            (append_ends s x _ m'' st lo o locals (sent-telegram s x.element x.chart there receiver.word port.word r.f3 (words_in vs) w w' (name-fits s ok r.f3 external name.0 name.1 (and_first _ _ (and_second _ _ (and_second _ _ t))) (words_in vs) v)))))))
        act_ends internal_send l q g h low e =
            let t = stated _ e in
            let shape = and_second _ _ (and_second _ _ h) in
            let d = and_second _ _ t in
            let name = named l q shape d in
            record_ends s x _ name.0 st lo _ name.1
            (name_ends l q shape d 1 0 l low (omega arith) _ (λ vs m are v p.
            provided_ends s x _ st lo _ are
            (append_ends s x _ m st lo o locals (own_telegram s x.element x.chart there r.f3 (words_in vs)
            (name-fits s ok r.f3 internal name.0 name.1 (and_first _ _ (and_first _ _ t)) (words_in vs) v)
            (awaited s ok r.f3 internal name.0 name.1 (and_first _ _ (and_first _ _ t)) (words_in vs) v x.element placed.bound x.chart placed.element (and_second _ _ (and_first _ _ t)))))))
        act_ends arm l q g h low e =
            let t = stated _ e in
            let shape = and_second _ _ h in
            let i = and_second _ _ (and_second _ _ t) in
            let d = and_second _ _ i in
            let name = named l q shape d in
            let kind : type_at s ((chart_variables x.chart).first + r.f1) ≡ clock_of (operator r) = eqb-true _ _ (and_first _ _ t) in
            operand_ends s x _ int_type l st lo _ (operand_gives _ (low 0 (omega arith)) _ l (and_first _ _ (and_second _ _ t))) (eval_left s x st lo _ l) (λ period m k w p.
            record_ends s x _ name.0 st lo _ name.1
            (name_ends l q shape d 2 1 m low (omega arith) _ (λ vs m' are v p'.
            provided_ends s x _ st lo _ (and-true _ _ (clock-there r.f1 (eqb (clock_of (operator r))) (and_first _ _ h) (eq-eqb _ _ (sym kind)) (ap is_clock kind ∙ (armed-clock (operator r) g).0)) (and-true _ _ (eq-eqb _ _ k) are))
            (armed_ends r.f1 (ltb-true _ _ (and_first _ _ h)) (operator r) g kind period.word w r.f3 (words_in vs) m'
            (name-fits s ok r.f3 internal name.0 name.1 (and_first _ _ (and_first _ _ i)) (words_in vs) v)
            (awaited s ok r.f3 internal name.0 name.1 (and_first _ _ (and_first _ _ i)) (words_in vs) v x.element placed.bound x.chart placed.element (and_second _ _ (and_first _ _ i)))))))
        act_ends clock_act l q g h low e =
            let t = stated _ e in
            let v = and_first _ _ h in
            either_ends s x (eqb (operator r) 38) _ _
            (λ b. let k = eqb-true _ _ (subst Acts b t) in
            provided_ends s x _ st lo _ (clock-there r.f1 (eqb timer_type) v (eq-eqb _ _ (sym k)) (timer_clock k)) (started-kept s st o x.element x.chart there r.f1 (ltb-true _ _ v) (has_cell s _ (clock-plain s ok _ (timer_clock k))) k l lo, locals))
            (λ b. let k = subst Acts b t in
            provided_ends s x _ st lo _ (clock-there r.f1 is_clock v k k) (stopped_kept s st o x.element x.chart there r.f1 (ltb-true _ _ v) (has_cell s _ (clock-plain s ok _ k)) k l lo, locals))
          where
            Acts : Bool → Type 0
            Acts b = elim b [ true ↦ eqb (chart_variable_type s x.chart r.f1) timer_type | false ↦ is_clock (chart_variable_type s x.chart r.f1) ] ≡ true
        act_ends call l q g h low e =
            let t = stated _ e in
            let p = held _ _ (and_first _ _ t) in
            let b = p.0 in
            let i = called_in s x.chart r b p.1 in
            record_ends s x _ b st lo _ p.1
            (values_ends s x (body_parameters b) (body_parameters b).count l _ st lo _
            (data_end_lem 1 0 (body_parameters b) l (subst (λ t. Lower (operands 1 0 t)) (number-present _ b _ p.1) low) (subst (λ g. data_match s f g r ≡ true) (parameters_of_lem _ b p.1) (and_second _ _ t)) (few-parameters s ok b x.chart i) (parameter_declared s ok _ x.chart placed.element.chart b i))
            (values_left_lem s x st lo r (body_parameters b).count 0 l) (λ vs m are v w.
            provided_ends s x _ st lo _ are (entered_ends b i (words_in vs) m v (omega arith))))
        act_ends choice l q g h low e =
            let t = stated _ e in
            operand_ends s x _ bool_type l st lo _ (operand_gives _ (low 0 (omega arith)) _ l (and_first _ _ t)) (eval_left s x st lo _ l) (λ v m k w p.
            provided_ends s x _ st lo _ (eq-eqb _ _ k)
            (either_ends s x (is_zero v.word) _ _
            (λ b. below_ends _ m st lo o locals (omega arith) (low 2 (omega arith)) (and_second _ _ (and_second _ _ t)))
            (λ b. below_ends _ m st lo o locals (omega arith) (low 1 (omega arith)) (and_first _ _ (and_second _ _ t)))))
        act_ends loop l q g h low e =
            let t = stated _ e in
            operand_ends s x _ bool_type l st lo _ (operand_gives _ (low 0 (omega arith)) _ l (and_first _ _ t)) (eval_left s x st lo _ l) (λ v m y w p.
            provided_ends s x _ st lo _ (eq-eqb _ _ y)
            (either_ends s x (is_zero v.word) _ _
            (λ b. (o, locals))
            (λ b. run_ends s x m _ _ _ _ (below_ends _ m st lo o locals (omega arith) (low 1 (omega arith)) (and_second _ _ t)) (run-left s depth x _ m st lo) (λ m' o' k' p'.
            ih depth x n m' (suc k) _ _ (omega arith) placed o' k' whole typed))))
        act_ends sequence l q g h low e =
            let t = stated _ e in
            run_ends s x l _ _ _ _ (below_ends _ l st lo o locals q (low 0 (omega arith)) (and_first _ _ t)) (run-left s depth x _ l st lo) (λ m o' k' p.
            below_ends _ m _ _ o' k' (omega arith) (low 1 (omega arith)) (and_second _ _ t))
        act_ends assign_element l q g h low e =
            let t = stated _ e in
            let i = array_index s _ (f r.f2) (and_first _ _ t) in
            let inside = and_first _ _ h in
            operand_ends s x _ i.kind l st lo _ (operand_gives _ (low 0 (omega arith)) _ l i.asked) (eval_left s x st lo _ l) (λ v m k w p.
            operand_ends s x _ _ m st lo _ (operand_gives _ (low 1 (omega arith)) _ m (and_second _ _ t)) (eval_left s x st lo _ m) (λ v' m' k' w' p'.
            provided_ends s x _ st lo _ (chart-variable-there r.f1 (eqb v'.kind) inside (eq-eqb _ _ k'))
            (element_ends r.f1 m' v'.word (ltb-true _ _ inside) w' (reached (chart_variable_index s x.chart r.f1) v) (array_leads s _ (f r.f2) (and_first _ _ t) v k w))))
        act_ends unknown l q g h low e = not_wrong e

  none_left : (depth : ℕ) (x : Context) (n : ℕ) (st lo : List ℤ) → Good s x (run_of s depth x n zero st lo)
  none_left depth x n st lo = subst (Good s x) (sym (run_none s depth x n st lo)) (omega arith, omega arith)

  no_steps : Steps 0
  no_steps depth x n zero k st lo q placed o locals h e = none_left depth x n st lo
  no_steps depth x n (suc l) k st lo q placed o locals h e = absurd (omega arith)

  -- a node of a statement, in a tree of at most k levels
  more_steps : (L : ℕ) → Steps L → Steps (suc L)
  unfolding tree_shape operands_of
  more_steps L ih depth x n zero k st lo q placed o locals h e = none_left depth x n st lo
  more_steps L ih depth x n (suc l) zero st lo q placed o locals h e = absurd (true_false h refl)
  more_steps L ih depth x n (suc l) (suc k) st lo q placed o locals h e =
      let d = held _ _ h in
      let r = d.0 in
      subst (Good s x) (sym (run-visit s depth x n l st lo))
      (record_ends s x _ r st lo _ d.1
      (act_ends x placed st lo o locals n k r depth L ih h e (form_of (operator r)) l (omega arith) refl (and_first _ _ d.2) (all-at _ _ (and_second _ _ d.2))
      (sym (type_at_lem s ok x placed st lo (cells x placed st lo o locals) locals n r d.1) ∙ e)))

  with_steps : (L : ℕ) → Steps L
  with_steps zero = no_steps
  with_steps (suc L) = more_steps L (with_steps L)

  -- a statement of a body, where the state is of the sheet and the body's variables are of their types
  pub statement_ends : (depth : ℕ) (x : Context) (n l k : ℕ) (st lo : List ℤ) → Placed s x → OfSheet s st → Locals s x lo → tree_shape s x.chart x.body k n ≡ true → type_of s x.chart x.body n ≡ Statement → Good s x (run_of s depth x n l st lo)
  statement_ends depth x n l k st lo placed o locals h e = with_steps l depth x n l k st lo (omega arith) placed o locals h e

  -- a whole body
  pub body_ends : (depth : ℕ) (x : Context) (l : ℕ) (st lo : List ℤ) → Placed s x → OfSheet s st → Locals s x lo → Good s x (run_of s depth x (root x.body) l st lo)
  unfolding body_static
  body_ends depth x l st lo placed o locals =
      statement_ends depth x (root x.body) l 64 st lo placed o locals
      (body-tree s ok _ x.chart placed.element.chart x.body placed.body)
      (is_statement_lem _ (and_second _ _ (and_second _ _ (and_second _ _ (body-static s ok _ x.chart placed.element.chart x.body placed.body)))))
