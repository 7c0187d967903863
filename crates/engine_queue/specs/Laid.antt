-- What is common to the states of all sheets.
use Rattle.std.specs.Prelude.{◌≤◌, ◌≡◌, List, true, length, ℤ}
use Rattle.machine.specs.State.{counted}
use Rattle.engine_store.specs.Layout.{shortest}

-- a head and the places, of which so many are used as the head says; every state of a sheet is so laid out
pub record Laid (st : List ℤ) : Type 0 where
  pub long : shortest ≤ length st
  pub head : counted st ≡ true
