-- What an engine knows where an event is to happen.
use Rattle.std.specs.Prelude.{ℕ, ◌≡◌, List, true, length, ℤ}
use Rattle.machine_events.specs.declared.Event.{Event}
use Rattle.machine_events.specs.Sought.{sought_at, may_undo, receiver_bound}
use Rattle.machine.specs.Valid.{OfSheet}

-- event e on state st, of which `old` is a copy if there may be work to undo; j is the number of the telegram that it takes
pub record Happens (s : List ℕ) (old st : List ℤ) (e : Event) (j : ℕ) : Type 0 where
  pub state : OfSheet s st
  pub bound : receiver_bound s e ≡ true
  pub sought : j ≡ sought_at s st e
  pub long : length old ≡ length st
  pub copied : may_undo s st e ≡ true → old ≡ st
