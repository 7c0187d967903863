-- Samples of what a statement does.
use Prim.Native.Nat.{ℕ}
use mathlib.Core.List.{List, [], ◌∷◌, ◌++◌}
use mathlib.Core.Path.{◌≡◌, refl}
use lib.ListN.{replicate}
use lib.IntN.{pos}
use Rattle.sheet_rules.proofs.Samples.{rec3, rec6}
use Rattle.machine.specs.declared.Ran.TheVariants.{Refused, Stuck}
use Rattle.machine.proofs.Samples.{in_body, headless, runs}

-- nodes 0 to 2 are Int 1, Int 0, 1 div 0; those given come after
abbrev tools : List ℕ
tools = rec3 2 1 0 ++ rec3 2 0 0 ++ rec3 15 0 1

-- ---- "then its operands go in field order, then its own act": what an act needs may be absent where an operand is refused before

-- with value 1 div 0 for a variable that the chart hasn't; with that period; with that receiver for a name that is absent
assign-refused : (runs (headless [] [] [] (tools ++ rec6 33 1 0 2 0 0) []) (in_body 0 0 0 0) [] 3 4).ran ≡ Refused 6 0
unfolding runs
assign-refused = refl

arm-refused : (runs (headless [] (rec3 0 0 1) [] (tools ++ rec6 36 0 2 0 0 0) []) (in_body 0 0 0 0) [] 3 4).ran ≡ Refused 6 0
unfolding runs
arm-refused = refl

send_refused : (runs (headless [] [] [] (tools ++ rec6 34 2 2 0 0 0) []) (in_body 0 0 0 0) [] 3 4).ran ≡ Refused 6 0
unfolding runs
send_refused = refl

-- of two data, Ints, the first is false and the second 1 div 0
data_refused : (runs (headless (rec3 1 0 0 ++ rec3 1 0 0) (rec3 0 2 1) [] (tools ++ rec3 1 0 0 ++ rec6 35 0 0 0 3 2) []) (in_body 0 0 0 0) [] 4 5).ran ≡ Refused 6 0
unfolding runs
data_refused = refl

-- of an index 1 div 0 and a value, the value is not visited
index-first : (runs (headless (rec3 1 60003 0) [] [] (tools ++ rec3 2 7 0 ++ rec6 44 0 2 3 0 0) []) (in_body 0 1 0 0) [] 4 4).ran ≡ Refused 6 0
unfolding runs
index-first = refl

-- ---- acts

-- 44 assign at index 3 of an array of three
one_too_far : (runs (headless (rec3 1 60003 0) [] [] (rec3 2 3 0 ++ rec6 44 0 0 0 0 0) []) (in_body 0 1 0 0) [] 1 3).ran ≡ Refused 11 0
unfolding runs
one_too_far = refl

-- "Parameters and locals together at most 16": 33 assign of a local behind 16 parameters
assign_seventeenth : (runs (headless (rec3 1 0 0) [] [] (tools ++ rec6 33 2 16 0 0 0) []) (in_body 0 0 16 1) [] 3 2).ran ≡ Stuck
unfolding runs
assign_seventeenth = refl

-- 35 internal send with five data, for which a node has no field
send_five : (runs (headless (rec3 1 0 0 ++ rec3 1 0 0 ++ rec3 1 0 0 ++ rec3 1 0 0 ++ rec3 1 0 0) (rec3 0 5 1) [] (tools ++ rec6 35 0 0 0 0 0) []) (in_body 0 0 0 0) [] 3 9).ran ≡ Stuck
unfolding runs
send_five = refl

-- "period below 1": 7
period_zero : (runs (headless (rec3 5 0 0) (rec3 0 0 1) [] (tools ++ rec6 36 0 1 0 0 0) []) (in_body 0 1 0 0) [] 3 2).ran ≡ Refused 7 0
unfolding runs
period_zero = refl

-- "Arming a Timeout sets its value to the period, a Cycler's to 0"
cycler_armed : (runs (headless (rec3 6 0 0) (rec3 0 0 1) [] (tools ++ rec6 37 0 0 0 0 0) []) (in_body 0 1 0 0) (replicate 16 (pos 0)) 3 2).st ≡ replicate 8 (pos 0) ++ pos 1 ∷ pos 0 ∷ pos 1 ∷ replicate 5 (pos 0)
unfolding runs
cycler_armed = refl

-- 40 call of a body whose local isn't declared
called_local_absent : (runs (headless [] [] (4 ∷ 0 ∷ 0 ∷ 0 ∷ 0 ∷ 0 ∷ 1 ∷ 0 ∷ []) (rec3 32 0 0 ++ rec3 40 0 0) []) (in_body 0 0 0 0) [] 1 2).ran ≡ Stuck
unfolding runs
called_local_absent = refl
