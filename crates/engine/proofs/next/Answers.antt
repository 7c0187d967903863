use mathlib.Core.Path.{sym, ap, ◌∙◌}
use Rattle.sheet.proofs.All.{true_false}
use Rattle.machine_events.specs.Sought.{receiver_bound}
use Rattle.machine_events.proofs.Apart.{receiver-bound}
use Rattle.engine_queue.proofs.Laws.{laid}
use Rattle.engine.proofs.Calls.{next_gives_lem}
use Rattle.engine.proofs.next.Goals as goal
use Rattle.engine.proofs.next.Goals.{then-needed, else-needed}

pub sought-j-requires : goal.sought-j-requires
sought-j-requires c = laid _ _ c.requires.0

pub may_undo-needed-requires : goal.may_undo-needed-requires
may_undo-needed-requires c = (c.requires.0, c.sought-j.ensures _ c.requires.0.whole)

pub happened-requires : goal.happened-requires
happened-requires c = record {
  state = c.requires.0;
  bound = ap (receiver_bound c.args.yard.now.sheet.sheet.now) c.event_of-e.ensures ∙ receiver-bound c.args.yard.now.sheet.sheet.now c.args.ev.now;
  sought = c.sought-j.ensures _ c.requires.0.whole;
  long = c.if-needed.auto.spare ∙ c.requires.1;
  copied = λ u. elim c.if-needed.branch [
    | then-needed w ↦ w.spare-is ∙ w.copy.ensures
    | else-needed w ↦ absurd (true_false u (sym c.may_undo-needed.ensures ∙ w.if-needed.false))
  ];
}

pub returns : goal.returns
returns c = next_gives_lem _ c.args.yard.now.passed _ _ c.requires.0 _ c.event_of-e.ensures _ _ c.happened.ensures
