-- What is known of a clock that runs.
use Rattle.std.specs.Prelude.{ℕ, ◌+◌, ◌≤◌, ◌≡◌, List, true, length, ℤ, pos}
use Rattle.std.specs.Int.Signed.{le_z}
use Rattle.machine.specs.State.{word_of, counted}
use Rattle.engine_store.specs.Layout.{shortest}

-- a cell before the places for telegrams, of a clock that runs; its value, period and name are from 0 on
pub record Running (st : List ℤ) (at : ℕ) : Type 0 where
  pub behind : 8 ≤ at
  pub inside : at + shortest ≤ length st
  pub head : counted st ≡ true
  pub runs : word_of st at ≡ pos 1
  pub value : le_z (pos 0) (word_of st (at + 1)) ≡ true
  pub period : le_z (pos 0) (word_of st (at + 2)) ≡ true
  pub name : le_z (pos 0) (word_of st (at + 3)) ≡ true
