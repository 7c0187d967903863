-- What a statement does.
use Prim.Native.Nat.{ℕ, zero, suc, ◌+◌, ◌-◌}
use mathlib.Core.List.{List, [], ◌∷◌}
use mathlib.Core.Bool.{true, false}
use mathlib.Core.Path.{◌≡◌, refl}
use lib.ListN.{set}
use lib.Dec.{ltb, eqb}
use lib.IntN.{ℤ, pos, negsuc}
use Rattle.sheet.specs.declared.Record.{Record}
use Rattle.sheet.specs.All.{◌and◌, all_below}
use Rattle.sheet.specs.Names.{data_of, body_parameters, body_locals, root, operator, bool_type, int_type, component_type, port_type, timer_type, is_clock}
use Rattle.sheet.specs.Names
use Rattle.sheet_rules.specs.Forms.{Form, literal, read, unary, binary, clock, read_element, skip, assign, external_send, internal_send, arm, clock_act, call, choice, loop, sequence, assign_element, unknown, form_of}
use Rattle.sheet_rules.specs.Indices.{is_plain}
use Rattle.sheet_rules.specs.Shape.{variables_at}
use Rattle.sheet_rules.specs.Types.{variable_at, clock_of}
use Rattle.machine.specs.declared.Value.{Value}
use Rattle.machine.specs.declared.Ran.TheVariants.{Done, Refused, Stuck}
use Rattle.machine.specs.Values.{is_zero}
use Rattle.machine.specs.State.{on, off, lost}
use Rattle.machine.specs.Eval.{Context, body_words, Reached, inside, out_of_range, unfit, reached}
use Rattle.machine.specs.Run.{world, then_run, then_operand, with_record, provided, values_from, then_values, are_of, words_in, datum, telegram, local_at, list_from, locals_of, locals_there, append, armed, clock_set, open_calls, Runs, fewer, in_body, assigned, has_variable, assign_of, element_assigned, assign_element_of, name_values, external_send_of, internal_send_of, arm_of, clock_act_of, entered, call_of, choice_of, run_in, run_step, run_f, run_of}
use Rattle.sheet_limits.specs.ButLimit.{ButLimit}
use Rattle.sheet_limits.proofs.Fields.{same_declared_so, same_type_at}
use Rattle.sheet_limits.proofs.Forms.{same_called_body}
use Rattle.sheet_limits.proofs.Indices.{same_index_at}
use Rattle.sheet_limits.proofs.Records.{same_names, same_nodes}
use Rattle.sheet_limits.proofs.Types.{same_chart_variable_index}
use Rattle.machine_limits.proofs.Eval.{same_eval_of, same_is_plain_variable, same_is_variable, same_variable_at_cell}
use Rattle.machine_limits.proofs.State.{same_appended}
use Rattle.machine_limits.proofs.Values.{same_default_of, same_has_default}

module _ {s s' : List ℕ} (h : ButLimit s s') where
  are_of_at : (d : ℕ) (a : List Value) → are_of s d a ≡ are_of s' d a
  unfolding are_of
  are_of_at d [] = refl
  are_of_at d (v ∷ vs) = λ q. same_declared_so h q d (eqb v.kind) and are_of_at (suc d) vs q

  pub same_are_of : are_of s ≡ are_of s'
  same_are_of = λ q d a. are_of_at d a q

  pub same_local_at : local_at s ≡ local_at s'
  unfolding local_at
  same_local_at = λ q b zs i.
      elim (ltb i (body_parameters b).count) [
        | true ↦ datum zs i
        | false ↦ elim (ltb i ((body_parameters b).count + (body_locals b).count)) [ true ↦ same_default_of h q (same_type_at h q ((body_locals b).first + (i - (body_parameters b).count))) | false ↦ pos 0 ]
      ]

  pub same_locals_of : locals_of s ≡ locals_of s'
  unfolding locals_of
  same_locals_of = λ q b zs. list_from body_words 0 (same_local_at q b zs)

  pub same_locals_there : locals_there s ≡ locals_there s'
  unfolding locals_there
  same_locals_there = λ q b. all_below (body_locals b).count (λ j. same_has_default h q ((body_locals b).first + j))

  pub same_append : append s ≡ append s'
  unfolding append
  same_append = λ q t l st lo. elim (same_appended h q st t) [ on st' ↦ world (Done l) st' lo | off n ↦ world (Refused n l) st lo | lost ↦ world Stuck st lo ]

  pub same_assigned : assigned s ≡ assigned s'
  unfolding assigned
  same_assigned = λ q x place n z l st lo.
      elim (eqb place Names.chart_variable) [
        | true ↦ world (Done l) (set st (same_variable_at_cell h q x n 0) z) lo
        | false ↦ elim (eqb place Names.body_variable) [ true ↦ world (Done l) st (set lo n z) | false ↦ world Stuck st lo ]
      ]

  pub same_has_variable : has_variable s ≡ has_variable s'
  unfolding has_variable
  same_has_variable = λ q x place n t.
      ltb n (variables_at x.chart x.body place)
      and elim (eqb place Names.body_variable) [ true ↦ ltb n body_words | false ↦ true ]
      and same_declared_so h q (variable_at x.chart x.body place n) (eqb t)
      and is_plain (same_index_at h q (variable_at x.chart x.body place n))

  pub same_assign_of : assign_of s ≡ assign_of s'
  unfolding assign_of
  same_assign_of = λ q x r l st lo.
      then_operand (same_eval_of h q x st lo r.f3 l) st lo (λ v l.
      provided (same_has_variable q x r.f1 r.f2 v.kind) st lo
      (same_assigned q x r.f1 r.f2 v.word l st lo))

  element_assigned_at : (x : Context) (n : ℕ) (a : Reached) → element_assigned s x n a ≡ element_assigned s' x n a
  unfolding element_assigned
  element_assigned_at x n (inside k) = λ q z l st lo. world (Done l) (set st (same_variable_at_cell h q x n k) z) lo
  element_assigned_at x n out_of_range = λ q z l st lo. world (Refused 11 l) st lo
  element_assigned_at x n unfit = λ q z l st lo. world Stuck st lo

  pub same_element_assigned : element_assigned s ≡ element_assigned s'
  same_element_assigned = λ q x n a. element_assigned_at x n a q

  pub same_assign_element_of : assign_element_of s ≡ assign_element_of s'
  unfolding assign_element_of
  same_assign_element_of = λ q x r l st lo.
      then_operand (same_eval_of h q x st lo r.f2 l) st lo (λ i l.
      then_operand (same_eval_of h q x st lo r.f3 l) st lo (λ value l.
      provided (same_is_variable h q x r.f1 (eqb value.kind)) st lo
      (same_element_assigned q x r.f1 (reached (same_chart_variable_index h q x.chart r.f1) i) value.word l st lo)))

  pub same_name_values : name_values s ≡ name_values s'
  unfolding name_values
  same_name_values = λ q x n r l st lo. values_from (same_eval_of h q x st lo) r (data_of n).count 0 l

  pub same_external_send_of : external_send_of s ≡ external_send_of s'
  unfolding external_send_of
  same_external_send_of = λ q x r l st lo.
      then_operand (same_eval_of h q x st lo r.f1 l) st lo (λ receiver l.
      then_operand (same_eval_of h q x st lo r.f2 l) st lo (λ port l.
      with_record (same_names h q r.f3) st lo (λ n.
      then_values (same_name_values q x n r l st lo) st lo (λ vs l.
      provided (eqb receiver.kind component_type and eqb port.kind port_type and same_are_of q (data_of n).first vs) st lo
      (same_append q (telegram (pos x.element) receiver.word port.word r.f3 (words_in vs)) l st lo)))))

  pub same_internal_send_of : internal_send_of s ≡ internal_send_of s'
  unfolding internal_send_of
  same_internal_send_of = λ q x r l st lo.
      with_record (same_names h q r.f3) st lo (λ n.
      then_values (same_name_values q x n r l st lo) st lo (λ vs l.
      provided (same_are_of q (data_of n).first vs) st lo
      (same_append q (telegram (pos x.element) (pos x.element) (negsuc 0) r.f3 (words_in vs)) l st lo)))

  pub same_arm_of : arm_of s ≡ arm_of s'
  unfolding arm_of
  same_arm_of = λ q x r l st lo.
      then_operand (same_eval_of h q x st lo r.f2 l) st lo (λ period l.
      with_record (same_names h q r.f3) st lo (λ n.
      then_values (same_name_values q x n r l st lo) st lo (λ vs l.
      provided (same_is_plain_variable h q x r.f1 (eqb (clock_of (operator r))) and eqb period.kind int_type and same_are_of q (data_of n).first vs) st lo
      (armed (same_variable_at_cell h q x r.f1 0) (clock_of (operator r)) period.word r.f3 (words_in vs) l st lo))))

  pub same_clock_act_of : clock_act_of s ≡ clock_act_of s'
  unfolding clock_act_of
  same_clock_act_of = λ q x r l st lo.
      elim (eqb (operator r) 38) [
        | true ↦ provided (same_is_plain_variable h q x r.f1 (eqb timer_type)) st lo (clock_set (same_variable_at_cell h q x r.f1 0) (pos 1) l st lo)
        | false ↦ provided (same_is_plain_variable h q x r.f1 is_clock) st lo (clock_set (same_variable_at_cell h q x r.f1 0) (pos 0) l st lo)
      ]

  pub same_entered : entered s ≡ entered s'
  unfolding entered
  same_entered = λ q x f depth b zs l st lo.
      elim (ltb depth open_calls) [
        | true ↦ provided (same_locals_there q b) st lo (let w = f (depth + 1) (in_body x b) (root b) l st (same_locals_of q b zs) in world w.ran w.st lo)
        | false ↦ world (Refused 9 l) st lo
      ]

  pub same_call_of : call_of s ≡ call_of s'
  unfolding call_of
  same_call_of = λ q x f depth r l st lo.
      with_record (same_called_body h q x.chart r) st lo (λ b.
      then_values (values_from (same_eval_of h q x st lo) r (body_parameters b).count 0 l) st lo (λ vs l.
      provided (same_are_of q (body_parameters b).first vs) st lo
      (same_entered q x f depth b (words_in vs) l st lo)))

  pub same_choice_of : choice_of s ≡ choice_of s'
  unfolding choice_of
  same_choice_of = λ q x n l st lo K L. then_operand (same_eval_of h q x st lo n l) st lo (λ v l. provided (eqb v.kind bool_type) st lo (elim (is_zero v.word) [ true ↦ L l | false ↦ K l ]))

  run_in_at : (x : Context) (f : Runs) (depth n : ℕ) (r : Record) (l : ℕ) (st lo : List ℤ) (a : Form) → run_in s x f depth n r l st lo a ≡ run_in s' x f depth n r l st lo a
  unfolding run_in
  run_in_at x f depth n r l st lo literal = refl
  run_in_at x f depth n r l st lo read = refl
  run_in_at x f depth n r l st lo unary = refl
  run_in_at x f depth n r l st lo binary = refl
  run_in_at x f depth n r l st lo clock = refl
  run_in_at x f depth n r l st lo read_element = refl
  run_in_at x f depth n r l st lo skip = refl
  run_in_at x f depth n r l st lo assign = λ q. same_assign_of q x r l st lo
  run_in_at x f depth n r l st lo external_send = λ q. same_external_send_of q x r l st lo
  run_in_at x f depth n r l st lo internal_send = λ q. same_internal_send_of q x r l st lo
  run_in_at x f depth n r l st lo arm = λ q. same_arm_of q x r l st lo
  run_in_at x f depth n r l st lo clock_act = λ q. same_clock_act_of q x r l st lo
  run_in_at x f depth n r l st lo call = λ q. same_call_of q x f depth r l st lo
  run_in_at x f depth n r l st lo choice = λ q. same_choice_of q x r.f1 l st lo (λ l. f depth x r.f2 l st lo) (λ l. f depth x r.f3 l st lo)
  run_in_at x f depth n r l st lo loop = λ q. same_choice_of q x r.f1 l st lo (λ l. then_run (f depth x r.f2 l st lo) (λ l st lo. f depth x n l st lo)) (λ l. world (Done l) st lo)
  run_in_at x f depth n r l st lo sequence = refl
  run_in_at x f depth n r l st lo assign_element = λ q. same_assign_element_of q x r l st lo
  run_in_at x f depth n r l st lo unknown = refl

  pub same_run_in : run_in s ≡ run_in s'
  same_run_in = λ q x f depth n r l st lo a. run_in_at x f depth n r l st lo a q

  run_step_at : (f : Runs) (depth : ℕ) (x : Context) (n a : ℕ) → run_step s f depth x n a ≡ run_step s' f depth x n a
  unfolding run_step
  run_step_at f depth x n zero = λ q st lo. world (Refused 10 0) st lo
  run_step_at f depth x n (suc l) = λ q st lo. with_record (same_nodes h q n) st lo (λ r. same_run_in q x f depth n r l st lo (form_of (operator r)))

  pub same_run_step : run_step s ≡ run_step s'
  same_run_step = λ q f depth x n a. run_step_at f depth x n a q

  run_f_at : (a : ℕ) → run_f s a ≡ run_f s' a
  unfolding run_f
  run_f_at zero = λ q depth x n left st lo. world Stuck st lo
  run_f_at (suc k) = λ q depth x n left st lo. same_run_step q (fewer left (run_f_at k q)) depth x n left st lo

  pub same_run_f : run_f s ≡ run_f s'
  same_run_f = λ q a. run_f_at a q

  pub same_run_of : run_of s ≡ run_of s'
  unfolding run_of
  same_run_of = λ q depth x n left st lo. same_run_f q (suc left) depth x n left st lo
