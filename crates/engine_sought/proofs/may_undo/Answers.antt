use Rattle.machine.specs.Values.{is_below}
use Rattle.engine_valid_values.proofs.Laws.{below_same}
use mathlib.Core.Path.{sym, ap, ◌∙◌}
use Rattle.machine_events.specs.Sought.{may_undo}
use Rattle.engine_rows.proofs.Laws.{given}
use Rattle.engine_queue.proofs.Laws.{laid}
use Rattle.engine_sought.proofs.Laws.{handed_on, deliver_undone, corrupt_undone, inner_undone}
use Rattle.engine_sought.proofs.may_undo.Goals as goal

pub returns-then-is_below : goal.returns-then-is_below
returns-then-is_below c = let read = given c.in-Deliver.receiver c.in-Deliver.known_told-in-Deliver-1-own.given.1.0.1 in
    handed_on _ _ _ _ _ c.in-Deliver.is (sym (below_same _ _ _ _ (c.is_below.ensures ∙ ap (λ z. is_below z c.externals.result) read) c.externals.ensures.0) ∙ c.if-is_below.true)

pub waiting_count-requires : goal.waiting_count-requires
waiting_count-requires c = laid _ _ c.requires.0

pub waiting_count-requires-in-Corrupt : goal.waiting_count-requires-in-Corrupt
waiting_count-requires-in-Corrupt c = laid _ _ c.requires.0

pub waiting_count-requires-in-Inner : goal.waiting_count-requires-in-Inner
waiting_count-requires-in-Inner c = laid _ _ c.requires.0

pub returns-in-Malformed : goal.returns-in-Malformed
unfolding may_undo
returns-in-Malformed c = sym (ap (may_undo _ _) c.in-Malformed.is)

pub returns-in-Outside : goal.returns-in-Outside
unfolding may_undo
returns-in-Outside c = sym (ap (may_undo _ _) c.in-Outside.is)

pub returns-else-is_below : goal.returns-else-is_below
returns-else-is_below c = let read = given c.in-Deliver.receiver c.in-Deliver.known_told-in-Deliver-1-own.given.1.0.1 in
    deliver_undone _ _ _ _ c.requires.1 _ c.waiting_count.ensures _ _ c.in-Deliver.is (sym (below_same _ _ _ _ (c.is_below.ensures ∙ ap (λ z. is_below z c.externals.result) read) c.externals.ensures.0) ∙ c.if-is_below.false)

pub returns-in-Corrupt : goal.returns-in-Corrupt
returns-in-Corrupt c = corrupt_undone _ _ _ _ c.requires.1 _ c.waiting_count-in-Corrupt.ensures _ _ c.in-Corrupt.is

pub returns-in-Inner : goal.returns-in-Inner
returns-in-Inner c = inner_undone _ _ _ _ c.requires.1 _ c.waiting_count-in-Inner.ensures _ c.in-Inner.is

pub returns-in-Slice : goal.returns-in-Slice
unfolding may_undo
returns-in-Slice c = sym (ap (may_undo _ _) c.in-Slice.is)
