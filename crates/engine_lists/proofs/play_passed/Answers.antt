use mathlib.Core.Path.{refl, sym, ◌∙◌}
use native.Mathlib.Omega.{arith}
use borrow.Author.Tests.{eqb-true}
use Rattle.machine_passed.proofs.Records.{cells_limit}
use Rattle.machine_claim.proofs.Kept.{begun}
use Rattle.engine_lengths.proofs.Laws.{by_cells}
use Rattle.machine_lists.proofs.Calls.{whole-told, answers_room, state-long, spare-long, list-long}
use Rattle.engine_lists.proofs.Calls.{played-list, refused-list}
use Rattle.engine_lists.proofs.play_passed.Goals as goal

pub is_state-requires : goal.is_state-requires
is_state-requires c = let e = c.args.yard.now.counted in omega (arith, cells_limit _ c.args.yard.now.passed)

pub returns-then-not-is_state : goal.returns-then-not-is_state
returns-then-not-is_state c = let args = c.args in
    let st = by_cells args.yard.now.sheet.sheet.now _ _ _ _ c.args.yard.now.counted c.is_state.ensures (c.if-not-is_state.true) in
    state-long args.yard.now.sheet.sheet.now args.events.now args.st.now args.spare.now args.answers.now c.args.yard.now.passed _ c.answered.ensures st

pub is_state-requires-2 : goal.is_state-requires-2
is_state-requires-2 c = let e = c.args.yard.now.counted in omega (arith, cells_limit _ c.args.yard.now.passed)

pub returns-then-not-is_state-2 : goal.returns-then-not-is_state-2
returns-then-not-is_state-2 c = let args = c.args in
    let spare = by_cells args.yard.now.sheet.sheet.now _ _ _ _ c.args.yard.now.counted c.is_state-2.ensures (c.if-not-is_state-2.true) in
    spare-long args.yard.now.sheet.sheet.now args.events.now args.st.now args.spare.now args.answers.now c.args.yard.now.passed _ c.answered-then-not-is_state-2.ensures spare

pub returns-then-not-is_list : goal.returns-then-not-is_list
returns-then-not-is_list c = let args = c.args in
    let st = by_cells args.yard.now.sheet.sheet.now _ _ _ _ c.args.yard.now.counted c.is_state.ensures (c.if-not-is_state.false) in
    let spare = by_cells args.yard.now.sheet.sheet.now _ _ _ _ c.args.yard.now.counted c.is_state-2.ensures (c.if-not-is_state-2.false) in
    let list = whole-told args.events.now args.answers.now _ _ c.is_list.ensures (c.if-not-is_list.true) in
    list-long args.yard.now.sheet.sheet.now args.events.now args.st.now args.spare.now args.answers.now c.args.yard.now.passed st spare _ c.answered-then-not-is_list.ensures list

pub begin-a-requires : goal.begin-a-requires
begin-a-requires c = let st = by_cells c.args.yard.now.sheet.sheet.now _ _ _ _ c.args.yard.now.counted c.is_state.ensures (c.if-not-is_state.false) in
    eqb-true _ _ st

pub play_on-requires : goal.play_on-requires
play_on-requires c = let args = c.args in
    let st = by_cells args.yard.now.sheet.sheet.now _ _ _ _ c.args.yard.now.counted c.is_state.ensures (c.if-not-is_state.false) in
    let spare = by_cells args.yard.now.sheet.sheet.now _ _ _ _ c.args.yard.now.counted c.is_state-2.ensures (c.if-not-is_state-2.false) in
    let list = whole-told args.events.now args.answers.now _ _ c.is_list.ensures (c.if-not-is_list.false) in
    let l = eqb-true _ _ st in
    record {
      state = begun args.yard.now.sheet.sheet.now c.args.yard.now.passed args.st.now c.begin-a.result c.begin-a.new.st l c.begin-a.ensures c.if-a-eq0.true;
      spare = eqb-true _ _ spare ∙ sym l ∙ sym c.begin-a.auto.st;
      answers = answers_room args.events.now args.answers.now list;
    }

pub returns-then-a-eq0 : goal.returns-then-a-eq0
returns-then-a-eq0 c = let args = c.args in
    let st = by_cells args.yard.now.sheet.sheet.now _ _ _ _ c.args.yard.now.counted c.is_state.ensures (c.if-not-is_state.false) in
    let spare = by_cells args.yard.now.sheet.sheet.now _ _ _ _ c.args.yard.now.counted c.is_state-2.ensures (c.if-not-is_state-2.false) in
    let list = whole-told args.events.now args.answers.now _ _ c.is_list.ensures (c.if-not-is_list.false) in
    played-list args.yard.now.sheet.sheet.now args.events.now args.st.now args.spare.now args.answers.now c.args.yard.now.passed st spare list _ _ c.begin-a.ensures c.if-a-eq0.true _ _ c.play_on.ensures.1

pub returns-else-a-eq0 : goal.returns-else-a-eq0
returns-else-a-eq0 c = let args = c.args in
    let st = by_cells args.yard.now.sheet.sheet.now _ _ _ _ c.args.yard.now.counted c.is_state.ensures (c.if-not-is_state.false) in
    let spare = by_cells args.yard.now.sheet.sheet.now _ _ _ _ c.args.yard.now.counted c.is_state-2.ensures (c.if-not-is_state-2.false) in
    let list = whole-told args.events.now args.answers.now _ _ c.is_list.ensures (c.if-not-is_list.false) in
    refused-list args.yard.now.sheet.sheet.now args.events.now args.st.now args.spare.now args.answers.now c.args.yard.now.passed st spare list _ _ c.begin-a.ensures c.if-a-eq0.false
