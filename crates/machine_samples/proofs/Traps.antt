-- The paper's traps, of which the starred samples and those about classes have the two on refused work and on a full list.
use mathlib.Core.List.{List, [], ◌∷◌, ◌++◌}
use mathlib.Core.Path.{◌≡◌, refl}
use Prim.Native.Nat.{ℕ}
use Rattle.sheet_rules.proofs.Samples.{rec3, rec6, body}
use Rattle.machine.proofs.Samples.{words, row}
use Rattle.machine_samples.proofs.Plays.{play, arming, timeout, slices}

-- "Firing a Timeout one slice early"
timeout_two : play (timeout 2) (slices 3) ≡ row 0 2 0 ∷ row 0 0 0 ∷ row 0 0 1 ∷ row 0 0 1 ∷ []
unfolding play timeout arming slices
timeout_two = refl

-- "running the panic body for an internal telegram"; "letting a send to self count as internal"

-- the initial body sends internal name 1, then external name 0 to itself on port 0; the reaction to name 1 has three nodes, the panic body one
selfish : List (List ℕ)
selfish =
    rec3 3 2 2
    ∷ []
    ∷ []
    ∷ (rec3 0 0 0 ++ rec3 0 0 1)
    ∷ rec6 0 0 0 0 0 3
    ∷ (body 0 0 4 ++ body 1 0 5 ++ body 3 1 8)
    ∷ (rec6 35 0 0 1 0 0 ++ rec3 6 0 0 ++ rec3 5 0 0 ++ rec3 34 1 2 ++ rec3 43 0 3 ++ rec3 32 0 0 ++ rec3 32 0 0 ++ rec3 32 0 0 ++ rec3 43 6 7)
    ∷ rec3 0 0 0
    ∷ []

-- Inner twice, then a Deliver, for which there is no reaction
to_oneself : play selfish (words 4 0 2 ∷ words 4 0 2 ∷ words 2 2 2 ∷ []) ≡ row 0 5 2 ∷ row 0 3 1 ∷ row 5 0 1 ∷ row 0 1 0 ∷ []
unfolding play selfish
to_oneself = refl
