use Prim.Native.Nat.{◌+◌, ◌*◌, ◌/◌, ◌-◌}
use mathlib.Core.Path.{◌≡◌, refl, sym, ap, ◌∙◌}
use native.Mathlib.Omega.{arith}
use lib.ListN.{length, take, drop}
use Rattle.machine.specs.Play.{words_of_event}
use Rattle.machine_claim.proofs.Kept.{goes_on_lem}
use Rattle.machine_lists.specs.Words.{words_of_answer, event_at}
use Rattle.engine_list_events.proofs.Laws.{within_limit, no_event_yet, event_more, all_events}
use Rattle.engine_list_events.proofs.play_on.Goals as goal

pub loop-i-init : goal.loop-i-init
loop-i-init c = (c.requires.state, refl, refl, refl, omega arith, refl, no_event_yet c.args.yard.now.sheet.sheet.now c.args.events.now _ c.args.st.now c.args.answers.now)

pub overflow_mul-from : goal.overflow_mul-from
overflow_mul-from c = omega arith

pub overflow_add-to : goal.overflow_add-to
overflow_add-to c = omega arith

pub offset_bounds-events-from : goal.offset_bounds-events-from
offset_bounds-events-from c = omega arith

pub slice_bounds-next-count : goal.slice_bounds-next-count
slice_bounds-next-count c = omega arith

pub next-a-requires : goal.next-a-requires
next-a-requires c = let v = c.loop-i.invariant in (v.0, v.2 ∙ c.requires.spare ∙ sym v.1)

pub overflow_mul-i : goal.overflow_mul-i
overflow_mul-i c = omega arith

pub prove-unreachable-requires : goal.prove-unreachable-requires
prove-unreachable-requires c = omega (arith, c.if-prove.true, within_limit c.args.yard.now.sheet.sheet.now _ c.limit-limit.ensures.0 c.loop-i.st _ c.next-a.result c.next-a.new.st c.next-a.ensures)

pub put_answer-requires : goal.put_answer-requires
put_answer-requires c = let v = c.loop-i.invariant in
    let l = c.loop-i-test.true in
    let m = c.requires.answers in
    (omega arith, omega (arith, c.if-prove.false, c.limit-limit.ensures.1))

pub loop-i-preserved : goal.loop-i-preserved
loop-i-preserved c = let v = c.loop-i.invariant in
    let l = c.loop-i-test.true in
    let i = c.loop-i.i in
    let st = c.loop-i.st in
    let from = words_of_event * i in
    let one : from + words_of_event - from ≡ words_of_event = omega arith in
    let e : take (from + words_of_event - from) (drop from c.args.events.now) ≡ event_at c.args.events.now i =
    ap (λ n. take n (drop from c.args.events.now)) one in
    let room : length c.loop-i.answers ≡ words_of_answer * (length c.args.events.now / words_of_event) = v.3 ∙ c.requires.answers in (
      goes_on_lem c.args.yard.now.sheet.sheet.now c.args.yard.now.passed st _ c.next-a.result c.next-a.new.st v.0 c.next-a.ensures,
      c.next-a.auto.st ∙ v.1,
      c.next-a.auto.spare ∙ v.2,
      c.put_answer.auto.answers ∙ v.3,
      omega arith,
      v.5,
      event_more c.args.yard.now.sheet.sheet.now c.args.events.now c.args.yard.now.passed _ i st c.loop-i.answers _ l room v.0 v.6 _ e c.next-a.result
          c.next-a.new.st c.next-a.ensures c.put_answer.new.answers c.put_answer.ensures,
    )

pub returns : goal.returns
returns c = let v = c.loop-i.invariant in (v.0, all_events c.args.yard.now.sheet.sheet.now c.args.events.now _ c.loop-i.i c.loop-i.st c.loop-i.answers _ v.4 c.loop-i-test.false (v.3 ∙ c.requires.answers) v.6)
