-- Samples about array variables: where an index leads, and 11.
use Prim.Native.Nat.{ℕ}
use mathlib.Core.List.{List, [], ◌∷◌, ◌++◌}
use mathlib.Core.Path.{◌≡◌, refl}
use lib.ListN.{replicate}
use lib.IntN.{ℤ, pos}
use Rattle.sheet_rules.proofs.Samples.{rec3, rec6, body}
use Rattle.machine.specs.Play.{stuck}
use Rattle.machine.proofs.Samples.{begun}
use Rattle.machine_samples.proofs.Plays.{answered}

-- one bound element with an Int array of three and an Int behind it; the nodes of its initial body, whose root is the last
yard : List ℕ → ℕ → List (List ℕ)
yard nodes root =
    rec3 3 2 2
    ∷ []
    ∷ (rec3 1 60003 0 ++ rec3 1 0 0)
    ∷ []
    ∷ rec6 0 0 0 2 0 2
    ∷ (body 0 0 root ++ body 1 0 0)
    ∷ (rec3 32 0 0 ++ nodes)
    ∷ rec3 0 0 0
    ∷ []

-- element i of the array becomes 7, then the Int behind it becomes element 1: i as the two halves of an Int
assigning : ℕ → ℕ → List (List ℕ)
assigning low high = yard (rec3 2 low high ++ rec3 2 7 0 ++ rec6 44 0 1 2 0 0 ++ rec3 2 1 0 ++ rec3 19 0 4 ++ rec6 33 1 1 5 0 0 ++ rec3 43 3 6) 7

-- the words of a state: four Ints, nothing waiting
holding : ℕ → ℕ → ℕ → ℕ → List ℤ
holding a b c d = replicate 8 (pos 0) ++ (pos a ∷ replicate 7 (pos 0)) ++ (pos b ∷ replicate 7 (pos 0)) ++ (pos c ∷ replicate 7 (pos 0)) ++ pos d ∷ replicate 1031 (pos 0)

first-element : begun (assigning 0 0) ≡ answered 0 7 (holding 7 0 0 0)
unfolding begun answered assigning yard holding
first-element = refl

second_element : begun (assigning 1 0) ≡ answered 0 7 (holding 0 7 0 7)
unfolding begun answered assigning yard holding
second_element = refl

last-element : begun (assigning 2 0) ≡ answered 0 7 (holding 0 0 7 0)
unfolding begun answered assigning yard holding
last-element = refl

-- "11, index outside its number": met when index and value are worked out, and start then leaves zeros
one_too_far : begun (assigning 3 0) ≡ answered 11 4 (replicate 1064 (pos 0))
unfolding begun answered assigning yard
one_too_far = refl

before-first : begun (assigning 65535 65535) ≡ answered 11 4 (replicate 1064 (pos 0))
unfolding begun answered assigning yard
before-first = refl

-- a read: the Int becomes element 3
read_too_far : begun (yard (rec3 2 3 0 ++ rec3 19 0 1 ++ rec6 33 1 1 2 0 0) 3) ≡ answered 11 3 (replicate 1064 (pos 0))
unfolding begun answered yard
read_too_far = refl

-- "operands go in field order": of an index 1 div 0 and a value, the value is not visited; a value 1 div 0 goes before an index outside
index-first : begun (yard (rec3 2 1 0 ++ rec3 2 0 0 ++ rec3 15 1 2 ++ rec3 2 7 0 ++ rec6 44 0 3 4 0 0) 5) ≡ answered 6 4 (replicate 1064 (pos 0))
unfolding begun answered yard
index-first = refl

value-before_act : begun (yard (rec3 2 3 0 ++ rec3 2 1 0 ++ rec3 2 0 0 ++ rec3 15 2 3 ++ rec6 44 0 1 4 0 0) 5) ≡ answered 6 5 (replicate 1064 (pos 0))
unfolding begun answered yard
value-before_act = refl

-- on sheets that aren't passed: an index of another type; 7 and 33 with an array; 44 with a plain variable
bool_index : begun (yard (rec3 1 1 0 ++ rec3 2 7 0 ++ rec6 44 0 1 2 0 0) 3) ≡ stuck
unfolding begun yard
bool_index = refl

array_read : begun (yard (rec3 7 1 0 ++ rec6 33 1 1 1 0 0) 2) ≡ stuck
unfolding begun yard
array_read = refl

array_assigned : begun (yard (rec3 2 7 0 ++ rec6 33 1 0 1 0 0) 2) ≡ stuck
unfolding begun yard
array_assigned = refl

plain-element : begun (yard (rec3 2 0 0 ++ rec3 2 7 0 ++ rec6 44 1 1 2 0 0) 3) ≡ stuck
unfolding begun yard
plain-element = refl
