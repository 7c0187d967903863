-- "Head f3 of 0 now means 2,000 steps", for each initial body and for each event.
use Prim.Native.Nat.{ℕ}
use mathlib.Core.List.{List, [], ◌∷◌, ◌++◌}
use mathlib.Core.Path.{◌≡◌, refl}
use lib.ListN.{replicate}
use lib.IntN.{pos}
use Rattle.sheet_rules.proofs.Samples.{sheet_of, rec3, rec6}
use Rattle.machine.specs.Play.{Outcome, event_call, limit_of}
use Rattle.machine.proofs.Samples.{words, sent}
use Rattle.machine_samples.proofs.Plays.{start, answered, waits}

-- a body with one local
counting : ℕ → ℕ → List ℕ
counting role root = role ∷ 0 ∷ 0 ∷ 0 ∷ 0 ∷ 0 ∷ 1 ∷ root ∷ []

-- one bound element with an initial and a panic body; f3 is 0. Node 7 is `while n < 249: n := n + 1`, which takes 249 times 8 steps and 4 more; nodes from 8 on are given
unlimited : List ℕ → ℕ → ℕ → List (List ℕ)
unlimited more initial panic =
    rec3 3 2 2
    ∷ []
    ∷ rec3 1 0 0
    ∷ rec3 0 0 0
    ∷ rec6 0 0 0 0 0 2
    ∷ (counting 0 initial ++ counting 1 panic)
    ∷ (rec3 7 2 0 ++ rec3 2 249 0 ++ rec3 11 0 1 ++ rec3 7 2 0 ++ rec3 2 1 0 ++ rec3 12 3 4 ++ rec6 33 2 0 5 0 0 ++ rec3 42 2 6 ++ more)
    ∷ rec3 0 0 0
    ∷ []

-- node 11 goes on with two skips in a sequence: 2,000 steps. Node 12 is a skip
exactly : List ℕ
exactly = rec3 32 0 0 ++ rec3 32 0 0 ++ rec3 43 8 9 ++ rec3 43 7 10 ++ rec3 32 0 0

-- node 12 goes on with n := n + 1: 2,001 steps. Node 13 is a skip
more : List ℕ
more = rec3 7 2 0 ++ rec3 2 1 0 ++ rec3 12 8 9 ++ rec6 33 2 0 10 0 0 ++ rec3 43 7 11 ++ rec3 32 0 0

start_2000 : start (unlimited exactly 11 12) ≡ answered 0 2000 (replicate 1032 (pos 0))
unfolding start answered unlimited counting exactly
start_2000 = refl

start_2001 : start (unlimited more 12 13) ≡ answered 10 2000 (replicate 1032 (pos 0))
unfolding start answered unlimited counting more
start_2001 = refl

-- a Corrupt of what waits for element 2, as a whole call
corrupted : List (List ℕ) → Outcome
unfolding start words waits sent
corrupted ss = event_call (sheet_of ss) (limit_of (sheet_of ss)) (waits 1 [] (sent 0 2)) (replicate 1032 (pos 0)) (words 3 0 2)

event_2000 : corrupted (unlimited exactly 12 11) ≡ answered 0 2000 (replicate 1032 (pos 0))
unfolding corrupted answered unlimited counting exactly
event_2000 = refl

event_2001 : corrupted (unlimited more 13 12) ≡ answered 10 2000 (waits 1 [] (sent 0 2))
unfolding corrupted answered unlimited counting more
event_2001 = refl
