-- What code says of a change of the state.
use Rattle.std.specs.Prelude.{ℕ, List, ℤ, Result, Ok, Err}
use Rattle.machine.specs.State.{Changed, on, off}

-- what a function answers and the words that it leaves: it goes on with these words, or is refused with a number
unfoldable pub changed_to : Result (Unit {0}) ℕ → List ℤ → Changed
changed_to (Ok done) st = on st
changed_to (Err n) st = off n
