-- The telegram that an event takes, and whether its refusal may have work to undo.
use Rattle.std.specs.Prelude.{ℕ, List, Bool, true, false, not, ltb, ℤ}
use Rattle.sheet.specs.All.{◌and◌}
use Rattle.sheet_rules.specs.Fields.{externals_of}
use Rattle.machine.specs.Values.{is_below}
use Rattle.machine.specs.State.{waiting}
use Rattle.machine.specs.Play.{goes_from, inner_of, oldest, bound_word}
use Rattle.machine_events.specs.declared.Event.{Event}
use Rattle.machine_events.specs.declared.Event.TheVariants.{Malformed, Outside, Deliver, Corrupt, Inner, Slice}

-- the number of the telegram that it takes, or of none: a Deliver and a Corrupt the oldest external one from a to r, an Inner the oldest internal one of r; 0 for the others, which take none
unfoldable pub sought_at : List ℕ → List ℤ → Event → ℕ
sought_at s st Malformed = 0
sought_at s st (Outside t) = 0
sought_at s st (Deliver a r) = oldest s st (goes_from a r)
sought_at s st (Corrupt a r) = oldest s st (goes_from a r)
sought_at s st (Inner r) = oldest s st (inner_of r)
sought_at s st Slice = 0

-- no Outside has work to undo, every Slice has, and so has every event that takes a telegram for a bound element: a body runs
unfoldable pub may_undo : List ℕ → List ℤ → Event → Bool
may_undo s st Malformed = false
may_undo s st (Outside t) = false
may_undo s st (Deliver a r) = ltb (oldest s st (goes_from a r)) (waiting st) and not (is_below r (externals_of s))
may_undo s st (Corrupt a r) = ltb (oldest s st (goes_from a r)) (waiting st)
may_undo s st (Inner r) = ltb (oldest s st (inner_of r)) (waiting st)
may_undo s st Slice = true

-- "as 2 with bound r": the receiver of a Corrupt
unfoldable pub receiver_bound : List ℕ → Event → Bool
receiver_bound s Malformed = true
receiver_bound s (Outside t) = true
receiver_bound s (Deliver a r) = true
receiver_bound s (Corrupt a r) = bound_word s r
receiver_bound s (Inner r) = true
receiver_bound s Slice = true
