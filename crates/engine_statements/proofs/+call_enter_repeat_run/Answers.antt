use Prim.Native.Nat.{◌+◌, ◌<◌}
use mathlib.Core.Path.{sym, ap, subst, ◌∙◌}
use native.Mathlib.Omega.{arith}
use lib.ListN.{get_or}
use Rattle.sheet.specs.Names.{root}
use Rattle.sheet_rules.specs.Forms.{assign, external_send, internal_send, arm, clock_act, call as calls, choice, loop, sequence, assign_element}
use Rattle.machine.specs.Run.{in_body, run_of}
use Rattle.sheet_rules.proofs.Forms.{form-arm, form-clock_act}
use Rattle.engine_ints.proofs.Range.{is_zero_lem, not-zero}
use Rattle.engine_ready.specs.Ready.{context_at, Ready}
use Rattle.engine_ready.proofs.Statements.{ready_after_lem, choice_operand, choice_then, choice_else, loop_operand, loop-body, sequence-first, sequence_second}
use Rattle.engine_data.proofs.Data.{data_given, no_record}
use Rattle.engine_arming.proofs.Acts.{act_lies}
use Rattle.engine_statements.proofs.Bodies.{body-called, number_small, has_data, four_parameters, callable, given-left, call_done, called_stop, too_deep_lem, body-runs, inner_context, fresh_there, few-parameters, few_variables, inner-ready, inner-statement}
use Rattle.engine_statements.proofs.Steps.{word_left, done_left, none_left, no_node, other_stuck, visit, skips, choice_no, choice_yes, choice_stop, loop_ends, loop_stop, turn_stop, turn_visit, turn_none_lem, turn_again, first_done, first_stop, step_back, form-assign, form-external, form-internal, form-call, form-choice, form-loop, form-sequence, form-assign-element}
use Rattle.engine_statements.proofs.+call_enter_repeat_run.Goals as goal

-- what call knows of those it calls
-- what enter knows of those it calls
-- what repeat knows of those it calls
-- what run knows of those it calls

pub call-overflow_add-number : goal.call-overflow_add-number
call-overflow_add-number t c = let h : get_or c.args.context.now 3 0 + c.args.r.f1 < 65536 = number_small _ _ _ _ _ _ c.requires.0 in let g : get_or c.args.context.now 3 0 + c.args.r.f1 < 18446744073709551616 = omega arith in record { fits = g }

pub call-returns-in_default : goal.call-returns-in_default
call-returns-in_default t c = no_record (sym c.in_default.is ∙ c.record.ensures) (body-called _ _ _ _ _ _ c.requires.0)

pub call-gather-requires : goal.call-gather-requires
call-gather-requires t c = let b-is = sym c.record.ensures ∙ c.in-Some.is in
    (c.requires.0.ready, has_data _ _ _ _ _ _ c.requires.0 _ b-is, four_parameters _ _ _ _ _ _ c.requires.0 _ b-is)

pub call-returns-in_err-data : goal.call-returns-in_err-data
call-returns-in_err-data t c = called_stop _ _ _ _ _ _ c.requires.0 _ (sym c.record.ensures ∙ c.in-Some.is) _ _ _ _ c.from_residual.ensures.1 c.in_err-data.ensures

pub call-enter-requires : goal.call-enter-requires
call-enter-requires t c = let b-is = sym c.record.ensures ∙ c.in-Some.is in
    let d = data_given _ _ _ c.in_ok-data.ensures in
    let h = given-left _ _ _ _ _ _ c.requires.0 _ b-is _ _ _ d.2 in
    let q = c.decreases in
    (omega arith, (callable _ _ _ _ _ _ c.requires.0 _ b-is _ _ _ _ d.2 d.1, c.requires.1))

pub call-returns : goal.call-returns
call-returns t c = let d = data_given _ _ _ c.in_ok-data.ensures in
    c.enter.ensures c.args.lo.now ∙ call_done _ _ _ _ _ _ c.requires.0 _ (sym c.record.ensures ∙ c.in-Some.is) _ _ _ _ _ d.2 d.1

pub enter-returns-then-depth-ge16 : goal.enter-returns-then-depth-ge16
enter-returns-then-depth-ge16 t c = λ lo. too_deep_lem _ _ _ _ _ _ _ lo c.if-depth-ge16.true

pub enter-fresh_locals-locals-requires : goal.enter-fresh_locals-locals-requires
enter-fresh_locals-locals-requires t c = (few-parameters _ _ _ _ _ _ c.requires.0, few_variables _ _ _ _ _ _ c.requires.0)

pub enter-run-requires : goal.enter-run-requires
enter-run-requires t c = let args = c.args in
    let q = c.decreases in
    let h = c.if-depth-ge16.false in (
      omega arith,
      (
        subst (λ lo. Ready args.sheet.now.sheet.now c.inner-inner.result args.st.now lo) (sym c.fresh_locals-locals.ensures)
            (inner-ready _ _ _ _ _ _ c.requires.0 _ c.inner-inner.ensures),
        inner-statement _ _ _ _ _ _ c.requires.0 _ c.inner-inner.ensures,
        omega arith,
      ),
    )

pub enter-returns : goal.enter-returns
enter-returns t c = let args = c.args in
    let inner-context-here = inner_context _ _ _ _ _ _ c.requires.0 _ c.inner-inner.ensures in
    let inBody-here = in_body (context_at args.sheet.now.sheet.now args.context.now) args.b in
    λ lo. body-runs _ _ _ _ _ _ _ lo (let h = c.if-depth-ge16.false in omega arith) (fresh_there _ _ _ _ _ _ c.requires.0) _ _ _
    (c.run.ensures.1
    ∙ ap (λ y. run_of args.sheet.now.sheet.now (args.depth + 1) y (root args.b) args.left args.st.now c.fresh_locals-locals.result) inner-context-here
    ∙ ap (λ lo. run_of args.sheet.now.sheet.now (args.depth + 1) inBody-here (root args.b) args.left args.st.now lo) c.fresh_locals-locals.ensures)

pub repeat-eval-requires : goal.repeat-eval-requires
repeat-eval-requires t c = (c.loop-word.invariant.0.ready, loop_operand _ _ _ _ c.loop-word.invariant.0.ready _ _ c.loop-word.invariant.0.there c.loop-word.invariant.0.statement c.loop-word.invariant.0.form)

pub repeat-returns-in_err-word : goal.repeat-returns-in_err-word
repeat-returns-in_err-word t c = (c.loop-word.invariant.0.ready.locals.sixteen, loop_stop _ _ _ _ _ _ c.loop-word.invariant.0 _ _ _ _ c.from_residual.ensures.1 c.in_err-word.ensures ∙ sym c.loop-word.invariant.1)

pub repeat-returns-then-word-eq0 : goal.repeat-returns-then-word-eq0
repeat-returns-then-word-eq0 t c = (c.loop-word.invariant.0.ready.locals.sixteen, loop_ends _ _ _ _ _ _ c.loop-word.invariant.0 _ _ _ _ c.in_ok-word.ensures (is_zero_lem (record { sfits = omega arith }) c.if-word-eq0.true) ∙ sym c.loop-word.invariant.1)

pub repeat-run-requires : goal.repeat-run-requires
repeat-run-requires t c = let h = word_left _ _ _ _ _ _ _ _ c.in_ok-word.ensures in
    let q = c.decreases in
    let i = c.loop-word.invariant.2 in (
      omega arith,
      (
        c.loop-word.invariant.0.ready,
        loop-body _ _ _ _ c.loop-word.invariant.0.ready _ _ c.loop-word.invariant.0.there c.loop-word.invariant.0.statement c.loop-word.invariant.0.form,
        c.requires.1,
      ),
    )

pub repeat-returns-in_err-after : goal.repeat-returns-in_err-after
repeat-returns-in_err-after t c = let goes-on = not-zero (record { sfits = omega arith }) c.if-word-eq0.false in
    (c.run.ensures.0, turn_stop _ _ _ _ _ _ c.loop-word.invariant.0 _ _ _ _ c.in_ok-word.ensures goes-on _ _ _ _ c.from_residual-in_err-after.ensures.1 c.in_err-after.ensures.1 ∙ sym c.loop-word.invariant.1)

pub repeat-returns-then-after-eq0 : goal.repeat-returns-then-after-eq0
repeat-returns-then-after-eq0 t c = let goes-on = not-zero (record { sfits = omega arith }) c.if-word-eq0.false in
    (c.run.ensures.0, turn_none_lem _ _ _ _ _ _ c.loop-word.invariant.0 _ _ _ _ c.in_ok-word.ensures goes-on _ _ _ c.in_ok-after.ensures.1 c.if-after-eq0.true ∙ sym c.loop-word.invariant.1)

pub repeat-loop-word-smaller : goal.repeat-loop-word-smaller
repeat-loop-word-smaller t c = let h = word_left _ _ _ _ _ _ _ _ c.in_ok-word.ensures in let k = done_left _ _ _ _ _ _ _ _ _ _ c.in_ok-after.ensures.1 in omega arith

pub repeat-loop-word-preserved : goal.repeat-loop-word-preserved
repeat-loop-word-preserved t c = let goes-on = not-zero (record { sfits = omega arith }) c.if-word-eq0.false in
    let h = word_left _ _ _ _ _ _ _ _ c.in_ok-word.ensures in
    let k = done_left _ _ _ _ _ _ _ _ _ _ c.in_ok-after.ensures.1 in
    let i = c.loop-word.invariant.2 in (
      turn_visit _ _ _ _ _ _ c.loop-word.invariant.0 _ _ _ _ c.in_ok-word.ensures goes-on _ _ _ c.in_ok-after.ensures.1,
      c.loop-word.invariant.1 ∙ turn_again _ _ _ _ _ _ c.loop-word.invariant.0 _ _ _ _ c.in_ok-word.ensures goes-on _ _ _ c.in_ok-after.ensures.1 c.if-after-eq0.false,
      omega arith,
      c.st-1.given ∙ c.loop-word.invariant.3,
      c.run.ensures.0 ∙ sym c.requires.0.ready.locals.sixteen,
    )

pub run-returns-then-left-eq0 : goal.run-returns-then-left-eq0
run-returns-then-left-eq0 t c = (c.requires.0.locals.sixteen, none_left _ _ _ _ c.requires.0 _ _ _ c.if-left-eq0.true)

pub run-returns-in_default : goal.run-returns-in_default
run-returns-in_default t c = (c.requires.0.locals.sixteen, no_node _ _ _ _ c.requires.0 _ _ _ c.if-left-eq0.false (sym c.record.ensures ∙ c.in_default.is))

pub run-assign-requires : goal.run-assign-requires
run-assign-requires t c = (visit _ _ _ _ c.requires.0 _ _ (sym c.record.ensures ∙ c.in-Some.is) c.requires.1 assign (form-assign _ c.in-33.is))

pub run-external_send-requires : goal.run-external_send-requires
run-external_send-requires t c = visit _ _ _ _ c.requires.0 _ _ (sym c.record.ensures ∙ c.in-Some.is) c.requires.1 external_send (form-external _ c.in-34.is)

pub run-internal_send-requires : goal.run-internal_send-requires
run-internal_send-requires t c = visit _ _ _ _ c.requires.0 _ _ (sym c.record.ensures ∙ c.in-Some.is) c.requires.1 internal_send (form-internal _ c.in-35.is)

pub run-call-requires : goal.run-call-requires
run-call-requires t c = let q = c.decreases in
    let h = c.if-left-eq0.false in
    (omega arith, (visit _ _ _ _ c.requires.0 _ _ (sym c.record.ensures ∙ c.in-Some.is) c.requires.1 calls (form-call _ c.in-40.is), c.requires.2))

pub run-eval-requires : goal.run-eval-requires
run-eval-requires t c = (c.requires.0, choice_operand _ _ _ _ c.requires.0 _ _ (sym c.record.ensures ∙ c.in-Some.is) c.requires.1 (form-choice _ c.in-41.is))

pub run-returns-in_err-word-in-41 : goal.run-returns-in_err-word-in-41
run-returns-in_err-word-in-41 t c = let choosing = visit _ _ _ _ c.requires.0 _ _ (sym c.record.ensures ∙ c.in-Some.is) c.requires.1 choice (form-choice _ c.in-41.is) in
    (c.requires.0.locals.sixteen, step_back _ _ _ _ _ _ _ c.if-left-eq0.false (choice_stop _ _ _ _ _ _ choosing _ _ _ _ c.from_residual.ensures.1 c.in_err-word-in-41.ensures))

pub run-run-requires : goal.run-run-requires
run-run-requires t c = let k = word_left _ _ _ _ _ _ _ _ c.in_ok-word-in-41.ensures in
    let q = c.decreases in
    let h = c.if-left-eq0.false in
    (omega arith, (c.requires.0, choice_else _ _ _ _ c.requires.0 _ _ (sym c.record.ensures ∙ c.in-Some.is) c.requires.1 (form-choice _ c.in-41.is), c.requires.2))

pub run-run-requires-else-word-eq0 : goal.run-run-requires-else-word-eq0
run-run-requires-else-word-eq0 t c = let k = word_left _ _ _ _ _ _ _ _ c.in_ok-word-in-41.ensures in
    let q = c.decreases in
    let h = c.if-left-eq0.false in
    (omega arith, (c.requires.0, choice_then _ _ _ _ c.requires.0 _ _ (sym c.record.ensures ∙ c.in-Some.is) c.requires.1 (form-choice _ c.in-41.is), c.requires.2))

pub run-returns-then-word-eq0 : goal.run-returns-then-word-eq0
run-returns-then-word-eq0 t c = let choosing = visit _ _ _ _ c.requires.0 _ _ (sym c.record.ensures ∙ c.in-Some.is) c.requires.1 choice (form-choice _ c.in-41.is) in
    let no = is_zero_lem (record { sfits = omega arith }) c.if-word-eq0.true in
    (c.run.ensures.0, step_back _ _ _ _ _ _ _ c.if-left-eq0.false (c.run.ensures.1 ∙ choice_no _ _ _ _ _ _ choosing _ _ _ _ c.in_ok-word-in-41.ensures no))

pub run-returns-else-word-eq0 : goal.run-returns-else-word-eq0
run-returns-else-word-eq0 t c = let choosing = visit _ _ _ _ c.requires.0 _ _ (sym c.record.ensures ∙ c.in-Some.is) c.requires.1 choice (form-choice _ c.in-41.is) in
    let yes = not-zero (record { sfits = omega arith }) c.if-word-eq0.false in
    (c.run-else-word-eq0.ensures.0, step_back _ _ _ _ _ _ _ c.if-left-eq0.false (c.run-else-word-eq0.ensures.1 ∙ choice_yes _ _ _ _ _ _ choosing _ _ _ _ c.in_ok-word-in-41.ensures yes))

pub run-repeat-requires : goal.run-repeat-requires
run-repeat-requires t c = let q = c.decreases in
    let h = c.if-left-eq0.false in
    (omega arith, (visit _ _ _ _ c.requires.0 _ _ (sym c.record.ensures ∙ c.in-Some.is) c.requires.1 loop (form-loop _ c.in-42.is), c.requires.2))

pub run-run-requires-in-43 : goal.run-run-requires-in-43
run-run-requires-in-43 t c = let q = c.decreases in
    let h = c.if-left-eq0.false in
    (omega arith, (c.requires.0, sequence-first _ _ _ _ c.requires.0 _ _ (sym c.record.ensures ∙ c.in-Some.is) c.requires.1 (form-sequence _ c.in-43.is), c.requires.2))

pub run-returns-in_err-after-in-43 : goal.run-returns-in_err-after-in-43
run-returns-in_err-after-in-43 t c = let in-order = visit _ _ _ _ c.requires.0 _ _ (sym c.record.ensures ∙ c.in-Some.is) c.requires.1 sequence (form-sequence _ c.in-43.is) in
    (c.run-in-43.ensures.0, step_back _ _ _ _ _ _ _ c.if-left-eq0.false (first_stop _ _ _ _ _ _ in-order _ _ _ _ _ _ c.from_residual-in_err-after-in-43.ensures.1 c.in_err-after-in-43.ensures.1))

pub run-run-requires-in-43-2 : goal.run-run-requires-in-43-2
run-run-requires-in-43-2 t c = let r-is = sym c.record.ensures ∙ c.in-Some.is in
    let sequence-here = form-sequence _ c.in-43.is in
    let first = sequence-first _ _ _ _ c.requires.0 _ _ r-is c.requires.1 sequence-here in
    let k = done_left _ _ _ _ _ _ _ _ _ _ c.in_ok-after-in-43.ensures.1 in
    let q = c.decreases in
    let h = c.if-left-eq0.false in (
      omega arith,
      (
        ready_after_lem _ _ _ _ c.requires.0 _ _ _ first _ _ _ (sym c.in_ok-after-in-43.ensures.1),
        sequence_second _ _ _ _ c.requires.0 _ _ r-is c.requires.1 sequence-here,
        c.requires.2,
      ),
    )

pub run-returns-in_ok-after-in-43 : goal.run-returns-in_ok-after-in-43
run-returns-in_ok-after-in-43 t c = let in-order = visit _ _ _ _ c.requires.0 _ _ (sym c.record.ensures ∙ c.in-Some.is) c.requires.1 sequence (form-sequence _ c.in-43.is) in
    (c.run-in-43-2.ensures.0, step_back _ _ _ _ _ _ _ c.if-left-eq0.false (c.run-in-43-2.ensures.1 ∙ first_done _ _ _ _ _ _ in-order _ _ _ _ _ c.in_ok-after-in-43.ensures.1))

pub run-assign_element-requires : goal.run-assign_element-requires
run-assign_element-requires t c = visit _ _ _ _ c.requires.0 _ _ (sym c.record.ensures ∙ c.in-Some.is) c.requires.1 assign_element (form-assign-element _ c.in-44.is)

pub run-arming-requires : goal.run-arming-requires
run-arming-requires t c = visit _ _ _ _ c.requires.0 _ _ (sym c.record.ensures ∙ c.in-Some.is) c.requires.1 arm (form-arm _ (omega arith) (omega arith))

pub run-clock-requires : goal.run-clock-requires
run-clock-requires t c = act_lies _ _ _ _ _ _ (visit _ _ _ _ c.requires.0 _ _ (sym c.record.ensures ∙ c.in-Some.is) c.requires.1 clock_act (form-clock_act _ (omega arith) (omega arith)))

pub run-returns-in-32 : goal.run-returns-in-32
run-returns-in-32 t c = (c.requires.0.locals.sixteen, step_back _ _ _ _ _ _ _ c.if-left-eq0.false (skips _ _ _ _ c.requires.0 _ _ (sym c.record.ensures ∙ c.in-Some.is) c.requires.1 c.in-32.is _ _))

pub run-returns-in-38-to-39 : goal.run-returns-in-38-to-39
run-returns-in-38-to-39 t c = let acting = visit _ _ _ _ c.requires.0 _ _ (sym c.record.ensures ∙ c.in-Some.is) c.requires.1 clock_act (form-clock_act _ (omega arith) (omega arith)) in
    (c.requires.0.locals.sixteen, step_back _ _ _ _ _ _ _ c.if-left-eq0.false (c.clock.ensures _ _ _ c.args.depth acting))

pub run-returns-in_default-op : goal.run-returns-in_default-op
run-returns-in_default-op t c = (c.requires.0.locals.sixteen, step_back _ _ _ _ _ _ _ c.if-left-eq0.false (other_stuck _ _ _ _ c.requires.0 _ _ (sym c.record.ensures ∙ c.in-Some.is) _ _ (λ p q. omega arith)))

pub run-returns-in_default-op-2 : goal.run-returns-in_default-op-2
run-returns-in_default-op-2 t c = (c.requires.0.locals.sixteen, step_back _ _ _ _ _ _ _ c.if-left-eq0.false (other_stuck _ _ _ _ c.requires.0 _ _ (sym c.record.ensures ∙ c.in-Some.is) _ _ (λ p q. omega arith)))
