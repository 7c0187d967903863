-- How many telegrams wait in a state.
use Rattle.std.specs.Prelude.{ℕ, ◌≤◌, ◌≡◌, List, length, ℤ}
use Rattle.machine.specs.State.{places, waiting}
use Rattle.engine_store.specs.Layout.{shortest}

-- n telegrams wait, no more than there are places, and the state has all places
pub record Waits (st : List ℤ) (n : ℕ) : Type 0 where
  pub number : n ≡ waiting st
  pub few : n ≤ places
  pub long : shortest ≤ length st
