-- Samples about full classes, also with 127 and 128 waiting in classes of at most 16.
use Prim.Native.Nat.{ℕ, zero, suc}
use mathlib.Core.List.{List, [], ◌∷◌, ◌++◌}
use mathlib.Core.Path.{◌≡◌, refl}
use lib.ListN.{replicate}
use lib.IntN.{ℤ, pos, negsuc}
use Rattle.sheet_rules.proofs.Samples.{rec3, rec6, body}
use Rattle.machine.proofs.Samples.{event, words, sent, fired}
use Rattle.machine_samples.proofs.Plays.{answered, arming, timeout, copies, waits, reacts, sends, once, twice, sixteens, at_eight, full}

-- so many wait from Log at element 2
at_two : ℕ → List ℤ
at_two n = waits n [] (copies n (sent 0 2))

-- 16 of a class and one more: 12; 15: 0
class_of_15 : event (once 2) (at_two 15) (words 1 0 2) ≡ answered 0 0 (at_two 16)
unfolding event answered words once reacts sends copies waits sent at_two
class_of_15 = refl

class_of_16 : event (once 2) (at_two 16) (words 1 0 2) ≡ answered 12 0 (at_two 16)
unfolding event answered words once reacts sends copies waits sent at_two
class_of_16 = refl

-- 15 of a class, and a Deliver to a reaction that sends two of it: nothing of the refused body's work is kept
class_twice : event (twice 2) (waits 16 [] (copies 15 (sent 2 0) ++ sent 0 2)) (words 2 0 2) ≡ answered 12 7 (waits 16 [] (copies 15 (sent 2 0) ++ sent 0 2))
unfolding event answered words twice reacts sends copies waits sent
class_twice = refl

-- another sender has a class of its own
other_sender : event (once 2) (at_two 16) (words 1 1 2) ≡ answered 0 0 (waits 17 [] (copies 16 (sent 0 2) ++ sent 1 2))
unfolding event answered words once reacts sends copies waits sent at_two
other_sender = refl

-- and another receiver: 16 from element 2 to Inf, and the reaction sends to Log
other_receiver : event (once 2) (waits 17 [] (copies 16 (sent 2 1) ++ sent 0 2)) (words 2 0 2) ≡ answered 0 3 (waits 17 [] (copies 16 (sent 2 1) ++ sent 2 0))
unfolding event answered words once reacts sends copies waits sent
other_receiver = refl

-- one bound element that reacts to external name 0 on port 0 by sending it to itself on that port, and to internal name 1 by sending that
echoes : List (List ℕ)
echoes =
    rec3 3 2 2
    ∷ []
    ∷ []
    ∷ (rec3 0 0 0 ++ rec3 0 0 1)
    ∷ rec6 0 0 0 0 0 4
    ∷ (body 0 0 0 ++ body 1 0 1 ++ body 2 0 4 ++ body 3 1 5)
    ∷ (rec3 32 0 0 ++ rec3 32 0 0 ++ rec3 6 0 0 ++ rec3 5 0 0 ++ rec3 34 2 3 ++ rec6 35 0 0 1 0 0)
    ∷ rec3 0 0 0
    ∷ []

-- internal name 1
inside : List ℤ
inside = pos 2 ∷ pos 2 ∷ negsuc 0 ∷ pos 1 ∷ replicate 4 (pos 0)

-- 16 of a class, and a Deliver that sends one of it after removing one: 0. As many internal ones between the same ends are a class of their own
class-delivered : event echoes (waits 32 [] (copies 16 inside ++ copies 16 (sent 2 2))) (words 2 2 2) ≡ answered 0 3 (waits 32 [] (copies 16 inside ++ copies 16 (sent 2 2)))
unfolding event answered words echoes inside copies waits sent
class-delivered = refl

-- the same of a clock that fires
about_to_fire : List ℤ
about_to_fire = pos 1 ∷ pos 1 ∷ pos 1 ∷ replicate 5 (pos 0)

slice_15 : event (timeout 1) (waits 15 about_to_fire (copies 15 (fired 2))) (words 5 0 0) ≡ answered 0 0 (waits 16 (replicate 8 (pos 0)) (copies 16 (fired 2)))
unfolding event answered words timeout arming copies waits fired about_to_fire
slice_15 = refl

slice_16 : event (timeout 1) (waits 16 about_to_fire (copies 16 (fired 2))) (words 5 0 0) ≡ answered 12 0 (waits 16 about_to_fire (copies 16 (fired 2)))
unfolding event answered words timeout arming copies waits fired about_to_fire
slice_16 = refl

-- ---- 127 and 128

-- 128 wait and the class is full: 8
class_and_list_full : event (once 8) full (words 1 1 8) ≡ answered 8 0 full
unfolding event answered words once reacts sends copies waits sent sixteens at_eight full
class_and_list_full = refl

-- nine elements, 2 to 10, of one chart with a Timeout, which react to internal name 0
nine : List (List ℕ)
nine =
    rec3 11 2 2
    ∷ []
    ∷ rec3 5 0 0
    ∷ rec3 0 0 1
    ∷ rec6 0 0 0 1 0 3
    ∷ (body 0 0 0 ++ body 1 0 1 ++ body 3 0 2)
    ∷ (rec3 32 0 0 ++ rec3 32 0 0 ++ rec3 32 0 0)
    ∷ (rec3 0 0 0 ++ rec3 0 0 0 ++ rec3 0 0 0 ++ rec3 0 0 0 ++ rec3 0 0 0 ++ rec3 0 0 0 ++ rec3 0 0 0 ++ rec3 0 0 0 ++ rec3 0 0 0)
    ∷ []

-- 16 internal telegrams of each of n elements, from number e on
own : ℕ → ℕ → List ℤ
unfolding copies fired
own zero e = []
own (suc n) e = copies 16 (fired e) ++ own n (suc e)

-- the clocks: those of elements 2 to 9 are stopped, and that of element 10
clocks : List ℤ → List ℤ
clocks last = replicate 64 (pos 0) ++ last

-- n telegrams of element 2 wait, and 16 of each of 3 to 9
ahead : ℕ → List ℤ
unfolding copies fired
ahead n = copies n (fired 2) ++ own 7 3

slice_127 : event nine (waits 127 (clocks about_to_fire) (ahead 15)) (words 5 0 0) ≡ answered 0 0 (waits 128 (clocks (replicate 8 (pos 0))) (ahead 15 ++ fired 10))
unfolding event answered words nine own clocks ahead copies waits fired about_to_fire
slice_127 = refl

slice_128 : event nine (waits 128 (clocks about_to_fire) (ahead 16)) (words 5 0 0) ≡ answered 8 0 (waits 128 (clocks about_to_fire) (ahead 16))
unfolding event answered words nine own clocks ahead copies waits fired about_to_fire
slice_128 = refl
