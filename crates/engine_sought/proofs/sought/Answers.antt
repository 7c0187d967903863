use mathlib.Core.Path.{sym, ap, ◌∙◌}
use Rattle.machine_events.specs.Sought.{sought_at}
use Rattle.engine_rows.proofs.Laws.{given}
use Rattle.engine_sought.proofs.sought.Goals as goal

pub returns-in-Malformed : goal.returns-in-Malformed
unfolding sought_at
returns-in-Malformed c = λ s l. ap (sought_at s c.args.st.now) (sym c.in-Malformed.is)

pub returns-in-Outside : goal.returns-in-Outside
unfolding sought_at
returns-in-Outside c = λ s l. ap (sought_at s c.args.st.now) (sym c.in-Outside.is)

pub returns-in-Deliver : goal.returns-in-Deliver
unfolding sought_at
returns-in-Deliver c = λ s l.
    (rw (given c.in-Deliver.sender c.in-Deliver.known_told-in-Deliver-1-own.given.0.1, given c.in-Deliver.receiver c.in-Deliver.known_told-in-Deliver-1-own.given.1.0.1) at (c.oldest_external.ensures s l)) ∙ ap (sought_at s c.args.st.now) (sym c.in-Deliver.is)

pub returns-in-Corrupt : goal.returns-in-Corrupt
unfolding sought_at
returns-in-Corrupt c = λ s l.
    (rw (given c.in-Corrupt.sender c.in-Corrupt.known_told-in-Corrupt-1-own.given.0.1, given c.in-Corrupt.receiver c.in-Corrupt.known_told-in-Corrupt-1-own.given.1.0.1) at (c.oldest_external-in-Corrupt.ensures s l)) ∙ ap (sought_at s c.args.st.now) (sym c.in-Corrupt.is)

pub returns-in-Inner : goal.returns-in-Inner
unfolding sought_at
returns-in-Inner c = λ s l.
    (rw (given c.in-Inner.receiver c.in-Inner.known_told-in-Inner-1-own.given.0.1) at (c.oldest_internal.ensures s l)) ∙ ap (sought_at s c.args.st.now) (sym c.in-Inner.is)

pub returns-in-Slice : goal.returns-in-Slice
unfolding sought_at
returns-in-Slice c = λ s l. ap (sought_at s c.args.st.now) (sym c.in-Slice.is)
