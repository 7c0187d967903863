-- Samples about array variables: what check gives to a sheet with one.
use Prim.Native.Nat.{ℕ, zero, suc}
use mathlib.Core.List.{List, [], ◌∷◌, ◌++◌}
use mathlib.Core.Path.{◌≡◌, refl}
use Rattle.sheet_rules.proofs.Samples.{rec3, rec6, body, check}

-- one bound element with one variable; its initial body assigns a value to the variable's element at an index, a literal each
indexing : List ℕ → List ℕ → List ℕ → List ℕ → List (List ℕ)
indexing types declarations index value =
    rec3 3 2 2
    ∷ types
    ∷ declarations
    ∷ []
    ∷ rec6 0 0 0 1 0 2
    ∷ (body 0 0 2 ++ body 1 0 3)
    ∷ (index ++ value ++ rec6 44 0 0 1 0 0 ++ rec3 32 0 0)
    ∷ rec3 0 0 0
    ∷ []

-- Bools over each kind of index
over-bool : check (indexing [] (rec3 0 1 0) (rec3 1 1 0) (rec3 1 1 0)) ≡ 0
unfolding check indexing
over-bool = refl

over-component : check (indexing [] (rec3 0 2 0) (rec3 4 2 0) (rec3 1 1 0)) ≡ 0
unfolding check indexing
over-component = refl

over-port : check (indexing [] (rec3 0 3 0) (rec3 5 1 0) (rec3 1 1 0)) ≡ 0
unfolding check indexing
over-port = refl

over_members : check (indexing (rec3 2 0 0) (rec3 0 8 0) (rec3 3 0 1) (rec3 1 1 0)) ≡ 0
unfolding check indexing
over_members = refl

over-number : check (indexing [] (rec3 0 60064 0) (rec3 2 64 0) (rec3 1 1 0)) ≡ 0
unfolding check indexing
over-number = refl

-- "Another f1 is 1": a type that is not there, the numbers 0 and 65
no_such_type : check (indexing [] (rec3 0 8 0) (rec3 3 0 0) (rec3 1 1 0)) ≡ 1
unfolding check indexing
no_such_type = refl

number_zero : check (indexing [] (rec3 0 60000 0) (rec3 2 0 0) (rec3 1 1 0)) ≡ 1
unfolding check indexing
number_zero = refl

number_65 : check (indexing [] (rec3 0 60065 0) (rec3 2 0 0) (rec3 1 1 0)) ≡ 1
unfolding check indexing
number_65 = refl

-- an index of another type; a plain variable; an array of clocks, in no range
another_type : check (indexing [] (rec3 0 2 0) (rec3 5 1 0) (rec3 1 1 0)) ≡ 2
unfolding check indexing
another_type = refl

plain-variable : check (indexing [] (rec3 0 0 0) (rec3 1 1 0) (rec3 1 1 0)) ≡ 2
unfolding check indexing
plain-variable = refl

array_of_clocks : check (indexing [] (rec3 0 2 0 ++ rec3 4 2 0) (rec3 4 2 0) (rec3 1 1 0)) ≡ 2
unfolding check indexing
array_of_clocks = refl

-- "the 512 counts cells": eight arrays of 64 Ints, and a plain variable more
arrays : ℕ → List ℕ
arrays zero = []
arrays (suc n) = rec3 1 60064 0 ++ arrays n

many : ℕ → List ℕ → List (List ℕ)
many variables declarations =
    rec3 3 2 2
    ∷ []
    ∷ declarations
    ∷ []
    ∷ rec6 0 0 0 variables 0 2
    ∷ (body 0 0 0 ++ body 1 0 1)
    ∷ (rec3 32 0 0 ++ rec3 32 0 0)
    ∷ rec3 0 0 0
    ∷ []

cells_512 : check (many 8 (arrays 8)) ≡ 0
unfolding check many arrays
cells_512 = refl

cells_513 : check (many 9 (arrays 8 ++ rec3 1 0 0)) ≡ 1
unfolding check many arrays
cells_513 = refl
