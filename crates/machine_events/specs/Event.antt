-- An event's words taken apart, and what the machine makes of it.
use Rattle.std.specs.Prelude.{ℕ, List, Bool, true, false, ℤ}
use Rattle.machine.specs.State.{word_of}
use Rattle.machine.specs.Kinds as kind
use Rattle.machine.specs.Kinds.{Kind, kind_of}
use Rattle.machine.specs.Play.{Outcome, outside, deliver, corrupt, inner, slice, is_event, telegram_of_event, turned_down}
use Rattle.machine_events.specs.declared.Event.{Event}
use Rattle.machine_events.specs.declared.Event.TheVariants.{Malformed, Outside, Deliver, Corrupt, Inner, Slice}

-- the words of a well formed event of that kind
unfoldable pub event_as : List ℤ → Kind → Event
event_as ev kind.outside = Outside (telegram_of_event ev)
event_as ev kind.deliver = Deliver (word_of ev 1) (word_of ev 2)
event_as ev kind.corrupt = Corrupt (word_of ev 1) (word_of ev 2)
event_as ev kind.inner = Inner (word_of ev 2)
event_as ev kind.slice = Slice
event_as ev kind.no_kind = Malformed

unfoldable pub event_of : List ℕ → List ℤ → Event
event_of s ev = elim (is_event s ev) [ true ↦ event_as ev (kind_of (word_of ev 0)) | false ↦ Malformed ]

unfoldable pub is_malformed : Event → Bool
is_malformed Malformed = true
is_malformed (Outside t) = false
is_malformed (Deliver a r) = false
is_malformed (Corrupt a r) = false
is_malformed (Inner r) = false
is_malformed Slice = false

-- on a state that is lent as the result too
unfoldable pub happens_by : List ℕ → ℕ → List ℤ → Event → Outcome
happens_by s limit st Malformed = turned_down 4 st
happens_by s limit st (Outside t) = outside s st t
happens_by s limit st (Deliver a r) = deliver s limit st a r
happens_by s limit st (Corrupt a r) = corrupt s limit st a r
happens_by s limit st (Inner r) = inner s limit st r
happens_by s limit st Slice = slice s st
