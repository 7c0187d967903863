-- The paper's starred samples, as one table of theorems. Two of those with 127 and 128 waiting are whole calls, whose tests of all places take seconds.
use Prim.Native.Nat.{ℕ}
use mathlib.Core.List.{List, [], ◌∷◌, ◌++◌}
use mathlib.Core.Path.{◌≡◌, refl}
use lib.ListN.{length, replicate}
use lib.IntN.{ℤ, pos, negsuc}
use Rattle.sheet_rules.proofs.Samples.{sheet_of, check, assigning, sending}
use Rattle.machine.specs.declared.Out.TheVariants.{Refused}
use Rattle.machine.specs.Play.{Outcome, event_call, limit_of}
use Rattle.machine.proofs.Samples as machine
use Rattle.machine.proofs.Samples.{int, on_ints_lem, event, words, row, sent}
use Rattle.machine_samples.proofs.Plays.{start, answered, play, arming, timeout, cycler, slices, copies, waits, reacts, sends, once, twice, sixteens, at_eight, full}

-- "−7 div 2 is −4 and −7 mod 2 is 1." Operator 15 div, 16 mod, with l steps left
seven_div_two : (l : ℕ) → on_ints_lem 15 (negsuc 6) (pos 2) l ≡ int (negsuc 3) l
unfolding on_ints_lem int
seven_div_two l = refl

seven_mod_two : (l : ℕ) → on_ints_lem 16 (negsuc 6) (pos 2) l ≡ int (pos 1) l
unfolding on_ints_lem int
seven_mod_two l = refl

-- "−2,147,483,648 div −1: 6; mod −1: 0."
least_div-minus-one : (l : ℕ) → on_ints_lem 15 (negsuc 2147483647) (negsuc 0) l ≡ Refused 6 l
unfolding on_ints_lem
least_div-minus-one l = refl

least_mod_minus-one : (l : ℕ) → on_ints_lem 16 (negsuc 2147483647) (negsuc 0) l ≡ int (pos 0) l
unfolding on_ints_lem int
least_mod_minus-one l = refl

-- "7 mod 0: 6."
mod-zero : (l : ℕ) → on_ints_lem 16 (pos 7) (pos 0) l ≡ Refused 6 l
mod-zero = machine.mod-zero

-- "Timeout 1 fires on the first slice; period 0: 7." A row for start and for each event: number, steps, how many wait then
timeout_one : play (timeout 1) (slices 2) ≡ row 0 2 0 ∷ row 0 0 1 ∷ row 0 0 1 ∷ []
unfolding play timeout arming slices
timeout_one = refl

timeout_zero : play (timeout 0) [] ≡ row 7 2 0 ∷ []
unfolding play timeout arming
timeout_zero = refl

-- "Cycler 3 fires on slices 1, 4, 7."
cycler_three : play (cycler 3) (slices 7) ≡ row 0 2 0 ∷ row 0 0 1 ∷ row 0 0 1 ∷ row 0 0 1 ∷ row 0 0 2 ∷ row 0 0 2 ∷ row 0 0 2 ∷ row 0 0 3 ∷ []
unfolding play cycler arming slices
cycler_three = refl

-- "A two-node body: limit 2 done; limit 1 gives 10, steps 1."
limit_two : start (assigning 1 2) ≡ answered 0 2 (replicate 8 (pos 0) ++ pos 1 ∷ replicate 1031 (pos 0))
unfolding start assigning answered
limit_two = refl

limit_one : start (assigning 1 1) ≡ answered 10 1 (replicate 1040 (pos 0))
unfolding start assigning answered
limit_one = refl

-- a whole call; the state lent for the result is all zeros
call : List (List ℕ) → List ℤ → List ℤ → Outcome
unfolding start
call ss st ev = event_call (sheet_of ss) (limit_of (sheet_of ss)) st (replicate (length st) (pos 0)) ev

-- "127 waiting, Outside: 0; 128: 8."
outside_127 : call (once 8) (waits 127 [] (at_eight 15 [])) (words 1 0 8) ≡ answered 0 0 (waits 128 [] (at_eight 16 []))
unfolding call answered words once reacts sends copies waits sent sixteens at_eight
outside_127 = refl

outside_128 : event (once 8) full (words 1 0 8) ≡ answered 8 0 full
unfolding event answered words once reacts sends copies waits sent sixteens at_eight full
outside_128 = refl

-- "128 waiting, Deliver to a reaction sending once: 0; twice: 8." Nothing of the refused body's work is kept
deliver-once : event (once 8) full (words 2 0 8) ≡ answered 0 3 (waits 128 [] (at_eight 14 (sent 8 0 ++ sent 8 0)))
unfolding event answered words once reacts sends copies waits sent sixteens at_eight full
deliver-once = refl

deliver_twice : call (twice 8) full (words 2 0 8) ≡ answered 8 7 full
unfolding call answered words twice reacts sends copies waits sent sixteens at_eight full
deliver_twice = refl

-- "Int assigned to Bool: 2", and Bool 0. "Internal send without a reaction: 2", and with one 0
bool-assigned_to_bool : check (assigning 1 0) ≡ 0
unfolding check assigning
bool-assigned_to_bool = refl

int-assigned_to_bool : check (assigning 2 0) ≡ 2
unfolding check assigning
int-assigned_to_bool = refl

internal_send_with_a_reaction : check (sending 3) ≡ 0
unfolding check sending
internal_send_with_a_reaction = refl

internal_send_without_a_reaction : check (sending 4) ≡ 2
unfolding check sending
internal_send_without_a_reaction = refl
