-- What an expression gives.
use Prim.Native.Nat.{ℕ, zero, suc, ◌+◌}
use mathlib.Core.List.{List}
use mathlib.Core.Bool.{true, false}
use mathlib.Core.Path.{◌≡◌, refl}
use lib.Dec.{ltb, eqb}
use lib.IntN.{ℤ, pos}
use Rattle.sheet.specs.declared.Record.{Record}
use Rattle.sheet.specs.All.{◌and◌}
use Rattle.sheet.specs.Names.{declared_type, chart_variables, operator, bool_type, int_type, is_clock, is_literal}
use Rattle.sheet.specs.Names
use Rattle.sheet_rules.specs.Fields.{is_field}
use Rattle.sheet_rules.specs.Forms.{Form, literal, read, unary, binary, clock, read_element, skip, assign, external_send, internal_send, arm, clock_act, call, choice, loop, sequence, assign_element, unknown, form_of}
use Rattle.sheet_rules.specs.Indices.{is_plain}
use Rattle.sheet_rules.specs.Bindings.{constant_field, constant_of}
use Rattle.sheet_rules.specs.Shape.{variables_at}
use Rattle.sheet_rules.specs.Types.{variable_at}
use Rattle.machine.specs.declared.Out.{Out}
use Rattle.machine.specs.declared.Out.TheVariants.{Val, Refused, Stuck}
use Rattle.machine.specs.Values.{is_zero}
use Rattle.machine.specs.State.{word_of}
use Rattle.machine.specs.Eval.{and_then, needs, on_record, val, literal_value, within, is_variable, is_plain_variable, of_type, on_type, parameter_val, body_words, variable_at_cell, reached, clock_word, clock_val, element_as, element_val, read_as, read_val, eval_in, eval_step, eval_f, eval_of, Context, Reached, inside, out_of_range, unfit}
use Rattle.sheet_limits.specs.ButLimit.{ButLimit}
use Rattle.sheet_limits.proofs.Fields.{same_declared_so}
use Rattle.sheet_limits.proofs.Indices.{same_index_at}
use Rattle.sheet_limits.proofs.Bindings.{same_constant_binding}
use Rattle.sheet_limits.proofs.Records.{same_declarations, same_nodes}
use Rattle.sheet_limits.proofs.Types.{same_chart_variable_index}
use Rattle.machine_limits.proofs.State.{same_cell_of}
use Rattle.machine_limits.proofs.Values.{same_in_type}

module _ {s s' : List ℕ} (h : ButLimit s s') where
  pub same_within_lem : within s ≡ within s'
  unfolding within
  same_within_lem = λ q x l. needs (same_in_type h q x.kind x.word) (Val x l)

  pub same_is_variable : is_variable s ≡ is_variable s'
  unfolding is_variable
  same_is_variable = λ q x n p. ltb n (chart_variables x.chart).count and same_declared_so h q ((chart_variables x.chart).first + n) p

  pub same_is_plain_variable : is_plain_variable s ≡ is_plain_variable s'
  unfolding is_plain_variable
  same_is_plain_variable = λ q x n p. same_is_variable q x n p and is_plain (same_chart_variable_index h q x.chart n)

  pub same_on_type : on_type s ≡ on_type s'
  same_on_type = λ q d K. on_record (same_declarations h q d) (λ r. K (declared_type r))

  pub same_parameter_val : parameter_val s ≡ parameter_val s'
  unfolding parameter_val
  same_parameter_val = λ q x n t l. needs (is_field (constant_field n)) (on_record (same_constant_binding h q x.binding n) (λ b. on_record (same_nodes h q (constant_of b n)) (λ r. needs (is_literal (operator r)) (of_type t (literal_value x.element r) (same_within_lem q (literal_value x.element r) l)))))

  pub same_variable_at_cell : variable_at_cell s ≡ variable_at_cell s'
  unfolding variable_at_cell
  same_variable_at_cell = λ q x n k. same_cell_of h q x.element x.chart n k

  pub same_clock_word : clock_word s ≡ clock_word s'
  unfolding clock_word
  same_clock_word = λ q x st n. elim (is_zero (word_of st (same_variable_at_cell q x n 0))) [ true ↦ pos 0 | false ↦ word_of st (same_variable_at_cell q x n 0 + 1) ]

  pub same_clock_val : clock_val s ≡ clock_val s'
  unfolding clock_val
  same_clock_val = λ q x st op n l.
      needs (same_is_plain_variable q x n is_clock)
      (elim (eqb op 17) [ true ↦ same_within_lem q (val bool_type (word_of st (same_variable_at_cell q x n 0))) l | false ↦ same_within_lem q (val int_type (same_clock_word q x st n)) l ])

  element_as_at : (x : Context) (st : List ℤ) (n t : ℕ) (a : Reached) → element_as s x st n t a ≡ element_as s' x st n t a
  unfolding element_as
  element_as_at x st n t (inside k) = λ q l. same_within_lem q (val t (word_of st (same_variable_at_cell q x n k))) l
  element_as_at x st n t out_of_range = λ q l. Refused 11 l
  element_as_at x st n t unfit = λ q l. Stuck

  pub same_element_as : element_as s ≡ element_as s'
  same_element_as = λ q x st n t a. element_as_at x st n t a q

  pub same_element_val : element_val s ≡ element_val s'
  unfolding element_val
  same_element_val = λ q x st n i l. needs (ltb n (chart_variables x.chart).count) (same_on_type q ((chart_variables x.chart).first + n) (λ t. same_element_as q x st n t (reached (same_chart_variable_index h q x.chart n) i) l))

  pub same_read_as : read_as s ≡ read_as s'
  unfolding read_as
  same_read_as = λ q x st lo place n t l.
      elim (eqb place Names.chart_parameter) [
        | true ↦ same_parameter_val q x n t l
        | false ↦ elim (eqb place Names.chart_variable) [ true ↦ same_within_lem q (val t (word_of st (same_variable_at_cell q x n 0))) l | false ↦ needs (ltb n body_words) (same_within_lem q (val t (word_of lo n)) l) ]
      ]

  pub same_read_val : read_val s ≡ read_val s'
  unfolding read_val
  same_read_val = λ q x st lo place n l. needs (ltb n (variables_at x.chart x.body place) and is_plain (same_index_at h q (variable_at x.chart x.body place n))) (same_on_type q (variable_at x.chart x.body place n) (λ t. same_read_as q x st lo place n t l))

  eval_in_at : (x : Context) (st lo : List ℤ) (f : (ℕ → ℕ → Out)) (r : Record) (l : ℕ) (a : Form) → eval_in s x st lo f r l a ≡ eval_in s' x st lo f r l a
  unfolding eval_in
  eval_in_at x st lo f r l literal = λ q. same_within_lem q (literal_value x.element r) l
  eval_in_at x st lo f r l read = λ q. same_read_val q x st lo r.f1 r.f2 l
  eval_in_at x st lo f r l unary = refl
  eval_in_at x st lo f r l binary = refl
  eval_in_at x st lo f r l clock = λ q. same_clock_val q x st (operator r) r.f1 l
  eval_in_at x st lo f r l read_element = λ q. and_then (f r.f2 l) (λ i l. same_element_val q x st r.f1 i l)
  eval_in_at x st lo f r l skip = refl
  eval_in_at x st lo f r l assign = refl
  eval_in_at x st lo f r l external_send = refl
  eval_in_at x st lo f r l internal_send = refl
  eval_in_at x st lo f r l arm = refl
  eval_in_at x st lo f r l clock_act = refl
  eval_in_at x st lo f r l call = refl
  eval_in_at x st lo f r l choice = refl
  eval_in_at x st lo f r l loop = refl
  eval_in_at x st lo f r l sequence = refl
  eval_in_at x st lo f r l assign_element = refl
  eval_in_at x st lo f r l unknown = refl

  pub same_eval_in : eval_in s ≡ eval_in s'
  same_eval_in = λ q x st lo f r l a. eval_in_at x st lo f r l a q

  eval_step_at : (x : Context) (st lo : List ℤ) (f : (ℕ → ℕ → Out)) (n a : ℕ) → eval_step s x st lo f n a ≡ eval_step s' x st lo f n a
  unfolding eval_step
  eval_step_at x st lo f n zero = refl
  eval_step_at x st lo f n (suc l) = λ q. on_record (same_nodes h q n) (λ r. same_eval_in q x st lo f r l (form_of (operator r)))

  pub same_eval_step : eval_step s ≡ eval_step s'
  same_eval_step = λ q x st lo f n a. eval_step_at x st lo f n a q

  eval_f_at : (x : Context) (st lo : List ℤ) (a : ℕ) → eval_f s x st lo a ≡ eval_f s' x st lo a
  unfolding eval_f
  eval_f_at x st lo zero = λ q n l. Stuck
  eval_f_at x st lo (suc k) = λ q n l. same_eval_step q x st lo (eval_f_at x st lo k q) n l

  pub same_eval_f : eval_f s ≡ eval_f s'
  same_eval_f = λ q x st lo a. eval_f_at x st lo a q

  pub same_eval_of : eval_of s ≡ eval_of s'
  unfolding eval_of
  same_eval_of = λ q x st lo n l. same_eval_f q x st lo (suc l) n l
