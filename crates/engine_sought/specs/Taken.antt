-- What taking a telegram comes to.
use Rattle.machine.specs.declared.Telegram.{Telegram}
use Rattle.std.specs.Prelude.{ℕ, ◌≤◌, List, ◌≡◌, ℤ, Option, Some, None}
use Rattle.machine.specs.State.{waiting}
use Rattle.machine_events.specs.Takes.{Takes}

-- the telegram numbered j, taken from a state of the sheet; where so many don't wait the state stays
abbrev pub TakenFrom : List ℕ → List ℤ → ℕ → Option Telegram → List ℤ → Type 0
TakenFrom s st j None st' = (waiting st ≤ j) × (st' ≡ st)
TakenFrom s st j (Some t) st' = Takes s st j t st'
