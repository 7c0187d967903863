-- What reading an event's words by one kind comes to.
use Rattle.std.specs.Prelude.{ℕ, List, true, false, ℤ}
use Rattle.machine.specs.Kinds.{Kind}
use Rattle.machine.specs.Play.{well_formed}
use Rattle.machine_events.specs.declared.Event.{Event}
use Rattle.machine_events.specs.declared.Event.TheVariants.{Malformed}
use Rattle.machine_events.specs.Event.{event_as}

-- the words of an event of that kind if they are well formed
abbrev pub read_as : List ℕ → List ℤ → Kind → Event
read_as s ev k = elim (well_formed s ev k) [ true ↦ event_as ev k | false ↦ Malformed ]
