-- The number that start answers on a state of the right length.
use Rattle.std.specs.Prelude.{ℕ, ◌≡◌, List, ℤ, pos, replicate}
use Rattle.machine.specs.declared.Answer.{Answer}
use Rattle.machine.specs.State.{state_length}
use Rattle.machine.specs.Lists.{StartGives}
use Rattle.machine.specs.Play.{limit_of}

abbrev pub StartAnswers : List ℕ → ℕ → Type 0
StartAnswers s n = (a : Answer) × (st : List ℤ) × StartGives s (limit_of s) (replicate (state_length s) (pos 0)) a st × (n ≡ a.number)
