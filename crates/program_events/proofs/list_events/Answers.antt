use Rattle.std.proofs.Common.{◌≡◌, ◌+◌, ◌*◌, ◌≤◌, ◌<◌, length, refl, ap, subst, ◌∙◌, rules}
use native.Mathlib.Numerals.{add-one}
use mir.Syntax.{w32}
use mir.Val.{to_z, of_z}
use mir.ValLaws.{to_z-of_z}
use lib.IntN.{pos}
use lib.Signed.{mag}
use lib.ListN.{get_or}
use Rattle.machine.specs.State.{word_of}
use Rattle.machine_lists.specs.Words.{answer_in}
use Rattle.program_text.specs.Decimal.{Put}
use Rattle.program_listing.specs.Listing.{event_line}
use Rattle.program_events.specs.Lines.{lines_of}
use Rattle.program_events.proofs.Pending.{none_pending, line_put, room_left}
use Rattle.program_events.proofs.list_events.Goals as goal

pub loop-i-init : goal.loop-i-init
unfolding lines_of
loop-i-init g c = (refl, search rules, search rules, none_pending _ c.args.out.now)

pub loop-i-preserved : goal.loop-i-preserved
unfolding lines_of word_of
loop-i-preserved g c =
    let loop = c.loop-i in
    let put = c.put_event-end in
    let next = c.in_ok-at in
    let same : length put.new.out ≡ length c.args.out.now = put.auto.out ∙ loop.invariant.0 in
    let i = loop.i in
    let kind = get_or c.args.words.now (9 * i) (pos 0) in
    let small : mag kind < 2147483648 = search rules in
    let same_kind : to_z w32 (of_z w32 kind) ≡ kind = to_z-of_z w32 kind (record { sfits = small }) in
    let number = c.args.done + i + 1 in
    let text : event_line number (to_z w32 (of_z w32 kind)) c.answer_at-a.result ≡ event_line number kind (answer_in c.args.answers.now (11 * i)) = ap (λ z. event_line number z c.answer_at-a.result) same_kind ∙ ap (event_line number kind) c.answer_at-a.ensures in
    let within : loop.at ≤ length loop.out = search rules in
    let line = line_put _ _ _ loop.at loop.out _ put.new.out put.result within loop.invariant.3 (subst (λ t. Put loop.out loop.at t put.new.out put.result) text put.ensures.0) in
    let more = room_left _ _ _ _ put.result 220 next.at put.new.out line next.ensures.place next.ensures.whole in
    (same, search rules, search rules, rw (add-one i) more)
