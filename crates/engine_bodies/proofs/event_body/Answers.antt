use mathlib.Core.Path.{refl, sym, ◌∙◌}
use native.Mathlib.Omega.{arith}
use Rattle.engine_bodies.proofs.Laws.{not_stuck, done_left, refused-left, refused_some, done_event, refused-event}
use Rattle.engine_bodies.proofs.event_body.Goals as goal

pub overflow_sub-limit : goal.overflow_sub-limit
overflow_sub-limit c = let m = c.limit-limit.ensures.0 in
    let l = done_left c.args.yard.now.passed c.requires.0 _ (sym c.in-Ok.ensures.0) in
    omega arith

pub overflow_sub-limit-in-Err-Refused : goal.overflow_sub-limit-in-Err-Refused
overflow_sub-limit-in-Err-Refused c = let m = c.limit-limit.ensures.0 in
    let l = refused-left c.args.yard.now.passed c.requires.0 _ _ (sym (rw c.in-Err-Refused.field-0-is at c.in-Err-Refused.ensures.0)) in
    omega arith

pub unreachable-requires : goal.unreachable-requires
unreachable-requires c = not_stuck c.args.yard.now.passed c.requires.0 (sym (rw c.in-Err-Stuck.field-0-is at c.in-Err-Stuck.ensures.0))

pub returns-in-Ok : goal.returns-in-Ok
returns-in-Ok c = done_event c.args.yard.now.passed c.requires.0 _ _ _ _ _ c.limit-limit.ensures.0 c.answer.ensures.0 (sym c.in-Ok.ensures.0) (c.answer.ensures.1 refl ∙ c.run_body.ensures.1)

pub returns-in-Err-Refused : goal.returns-in-Err-Refused
returns-in-Err-Refused c = let ran = sym (rw c.in-Err-Refused.field-0-is at c.in-Err-Refused.ensures.0) in
    refused-event c.args.yard.now.passed c.requires.0 _ _ _ _ _ c.limit-limit.ensures.0 _ c.answer-in-Err-Refused.ensures.0 ran (c.answer-in-Err-Refused.ensures.2 (refused_some c.args.yard.now.passed c.requires.0 _ _ ran))
