-- Samples of what an expression gives.
use Prim.Native.Nat.{ℕ, zero, suc}
use mathlib.Core.List.{List, [], ◌∷◌, ◌++◌}
use mathlib.Core.Path.{◌≡◌, refl}
use lib.ListN.{replicate}
use lib.IntN.{pos}
use Rattle.sheet_rules.proofs.Samples.{rec3}
use Rattle.machine.specs.declared.Out.{Out}
use Rattle.machine.specs.declared.Out.TheVariants.{Refused, Stuck}
use Rattle.machine.proofs.Samples.{int, in_body, headless, gives}

-- a sheet of nodes alone
abbrev nodes : List ℕ → List (List ℕ)
nodes ns = headless [] [] [] ns []

-- "a value .. lies outside its type": a Bool of 2
bool_two : gives (nodes (rec3 1 2 0)) (in_body 0 0 0 0) [] 0 1 ≡ Stuck
unfolding gives
bool_two = refl

-- not of itself, until the step limit
not_itself : gives (nodes (rec3 8 0 0)) (in_body 0 0 0 0) [] 0 20 ≡ Refused 10 0
unfolding gives
not_itself = refl

-- ---- variables

-- 7 read of a chart's variable that isn't declared; of an array, which "operators 7 and 33 don't take"
read_absent : gives (nodes (rec3 7 1 0)) (in_body 0 1 0 0) [] 0 1 ≡ Stuck
unfolding gives
read_absent = refl

read_array : gives (headless (rec3 1 60003 0) [] [] (rec3 7 1 0) []) (in_body 0 1 0 0) [] 0 1 ≡ Stuck
unfolding gives
read_array = refl

-- "Parameters and locals together at most 16": of a local behind 16 parameters
read_seventeenth : gives (headless (rec3 1 0 0) [] [] (rec3 7 2 16) []) (in_body 0 0 16 1) [] 0 1 ≡ Stuck
unfolding gives
read_seventeenth = refl

-- 18 "its value, 0 when stopped", whatever the word there is
value_stopped : gives (headless (rec3 4 0 0) [] [] (rec3 18 0 0) []) (in_body 0 1 0 0) (replicate 9 (pos 0) ++ pos 5 ∷ []) 0 1 ≡ int (pos 0) 0
unfolding gives int
value_stopped = refl

-- ---- chart parameters: "the first as today, the second with f0 = 65,535 and the eighth parameter onward in f1 to f7"

ints : ℕ → List ℕ
ints zero = []
ints (suc n) = rec3 1 0 0 ++ ints n

-- a read of parameter n, an Int as all are; the first constant of the first record is 5, of the second 7
bound : ℕ → Out
unfolding ints gives
bound n = gives (headless (ints (suc n)) [] [] (rec3 2 5 0 ++ rec3 2 7 0 ++ rec3 7 0 n) (rec3 0 0 0 ++ rec3 65535 1 0)) (in_body (suc n) 0 0 0) [] 2 1

eighth : bound 7 ≡ int (pos 7) 0
unfolding bound int
eighth = refl

-- a fifteenth, for which the second record has no field
fifteenth : bound 14 ≡ Stuck
unfolding bound
fifteenth = refl

-- ---- elements of arrays

-- 19 read of an Int array of three, which holds 5, 7 and 0, at an index
element : List ℕ → Out
unfolding gives
element index = gives (headless (rec3 1 60003 0) [] [] (index ++ rec3 19 0 0) []) (in_body 0 1 0 0) (replicate 8 (pos 0) ++ (pos 5 ∷ replicate 7 (pos 0)) ++ pos 7 ∷ []) 1 2

second_element : element (rec3 2 1 0) ≡ int (pos 7) 0
unfolding element int
second_element = refl

-- "11, index outside its number"
one_too_far : element (rec3 2 3 0) ≡ Refused 11 0
unfolding element
one_too_far = refl

-- "with an index of the array's index type (Int for a number)": not true
bool_index : element (rec3 1 1 0) ≡ Stuck
unfolding element
bool_index = refl
