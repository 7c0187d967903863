-- "Charts write (Pointer − 1) mod (Length + 1) to walk backwards", as the machine runs it.
use Prim.Native.Nat.{ℕ, ◌/◌, ◌%◌}
use mathlib.Core.List.{List, [], ◌∷◌, ◌++◌}
use mathlib.Core.Path.{◌≡◌, refl}
use lib.ListN.{replicate}
use lib.IntN.{ℤ, pos}
use Rattle.sheet_rules.proofs.Samples.{rec3, rec6, body, check}
use Rattle.machine.specs.Play.{Outcome}
use Rattle.machine.proofs.Samples.{event, words, sent}
use Rattle.machine_samples.proofs.Plays.{answered, waits}

-- one bound element with a parameter Length and a variable Pointer; its panic body steps left
leftward : ℕ → List (List ℕ)
leftward length =
    rec3 3 2 2
    ∷ []
    ∷ rec3 1 0 0
    ∷ rec3 0 0 0
    ∷ rec6 0 1 0 1 0 2
    ∷ (body 0 0 0 ++ body 1 0 9)
    ∷ (rec3 32 0 0 ++ rec3 2 (length % 65536) (length / 65536) ++ rec3 7 1 0 ++ rec3 2 1 0 ++ rec3 13 2 3 ++ rec3 7 0 0 ++ rec3 2 1 0 ++ rec3 12 5 6 ++ rec3 16 4 7 ++ rec6 33 1 0 8 0 0)
    ∷ rec3 0 1 0
    ∷ []

passed : check (leftward 3) ≡ 0
unfolding check leftward
passed = refl

-- Pointer's cell
cell : ℕ → List ℤ
cell pointer = pos pointer ∷ replicate 7 (pos 0)

-- a telegram waits that the chart has no reaction to, and is delivered
stepping : ℕ → ℕ → Outcome
unfolding leftward cell event words sent waits
stepping length pointer = event (leftward length) (waits 1 (cell pointer) (sent 0 2)) (words 2 0 2)

-- where it then stands
stands : ℕ → Outcome
unfolding cell answered waits
stands pointer = answered 0 8 (waits 0 (cell pointer) [])

-- round a list of four
from_three : stepping 3 3 ≡ stands 2
unfolding stepping stands
from_three = refl

from_two : stepping 3 2 ≡ stands 1
unfolding stepping stands
from_two = refl

from_one : stepping 3 1 ≡ stands 0
unfolding stepping stands
from_one = refl

from_zero : stepping 3 0 ≡ stands 3
unfolding stepping stands
from_zero = refl

-- "at Pointer 0" it is Length: of a list of one, and of the longest
list_of_one_lem : stepping 0 0 ≡ stands 0
unfolding stepping stands
list_of_one_lem = refl

longest-list : stepping 2147483646 0 ≡ stands 2147483646
unfolding stepping stands
longest-list = refl

-- one longer, and Length + 1 is no Int
too_long : stepping 2147483647 0 ≡ answered 6 8 (waits 1 (cell 0) (sent 0 2))
unfolding stepping answered
too_long = refl
