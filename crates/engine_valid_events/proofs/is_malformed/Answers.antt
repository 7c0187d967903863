use Rattle.machine_events.specs.Event.{is_malformed}
use borrow.Author.Rules.{rules}
use Rattle.engine_valid_events.proofs.is_malformed.Goals as goal

pub returns-in-Malformed : goal.returns-in-Malformed
unfolding is_malformed
returns-in-Malformed c = search rules

pub returns-in-Outside : goal.returns-in-Outside
unfolding is_malformed
returns-in-Outside c = search rules

pub returns-in-Deliver : goal.returns-in-Deliver
unfolding is_malformed
returns-in-Deliver c = search rules

pub returns-in-Corrupt : goal.returns-in-Corrupt
unfolding is_malformed
returns-in-Corrupt c = search rules

pub returns-in-Inner : goal.returns-in-Inner
unfolding is_malformed
returns-in-Inner c = search rules

pub returns-in-Slice : goal.returns-in-Slice
unfolding is_malformed
returns-in-Slice c = search rules
