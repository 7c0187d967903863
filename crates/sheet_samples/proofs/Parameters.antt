-- Samples about elements bound by one record and by two: what check gives to their sheets.
use Prim.Native.Nat.{ℕ, zero, suc}
use mathlib.Core.List.{List, [], ◌∷◌, ◌++◌}
use mathlib.Core.Path.{◌≡◌, refl}
use Rattle.sheet_rules.specs.Bindings.{first_binding}
use Rattle.sheet_rules.proofs.Samples.{sheet_of, rec3, rec6, body, check}

-- n records alike
times : ℕ → List ℕ → List ℕ
times zero r = []
times (suc n) r = r ++ times n r

from : ℕ → ℕ → List ℕ
from zero k = []
from (suc n) k = k ∷ from n (suc k)

-- a binding record with f0, then nodes from k on, as many as n, then so many zeros
binding : ℕ → ℕ → ℕ → ℕ → List ℕ
unfolding from times
binding f0 n k rest = f0 ∷ from n k ++ times rest (0 ∷ [])

-- so many elements; a chart with n Bool parameters; its bodies skip, nodes 0 and 1, and those from 2 on are k literals
sheet : ℕ → ℕ → ℕ → List ℕ → List (List ℕ)
unfolding check times
sheet elements n k bindings =
    rec3 (suc (suc elements)) 2 2
    ∷ []
    ∷ times n (rec3 0 0 0)
    ∷ []
    ∷ rec6 0 n 0 0 0 2
    ∷ (body 0 0 0 ++ body 1 0 1)
    ∷ (times 2 (rec3 32 0 0) ++ times k (rec3 1 0 0))
    ∷ bindings
    ∷ []

-- "the first as today"; "the second with f0 = 65,535 and the eighth parameter onward"
seven : check (sheet 1 7 7 (binding 0 7 2 0)) ≡ 0
unfolding check sheet binding
seven = refl

eight : check (sheet 1 8 8 (binding 0 7 2 0 ++ binding 65535 1 9 6)) ≡ 0
unfolding check sheet binding
eight = refl

fourteen : check (sheet 1 14 14 (binding 0 7 2 0 ++ binding 65535 7 9 0)) ≡ 0
unfolding check sheet binding
fourteen = refl

-- "up to 14 parameters", in a chart that nothing binds too
fourteen_unbound : check (sheet 0 14 0 []) ≡ 0
unfolding check sheet
fourteen_unbound = refl

fifteen_unbound : check (sheet 0 15 0 []) ≡ 1
unfolding check sheet
fifteen_unbound = refl

-- two elements: the second one's records stand behind both of the first
two_elements : check (sheet 2 8 16 (binding 0 7 2 0 ++ binding 65535 1 9 6 ++ binding 0 7 10 0 ++ binding 65535 1 17 6)) ≡ 0
unfolding check sheet binding
two_elements = refl

behind_two : first_binding (sheet_of (sheet 2 8 16 (binding 0 7 2 0 ++ binding 65535 1 9 6 ++ binding 0 7 10 0 ++ binding 65535 1 17 6))) 1 ≡ 2
unfolding check sheet binding
behind_two = refl

-- "as many records as its charts need": one less, between others and at the end, and one more where none is needed
none_second : check (sheet 2 8 15 (binding 0 7 2 0 ++ binding 0 7 9 0 ++ binding 65535 1 16 6)) ≡ 1
unfolding check sheet binding
none_second = refl

none_last : check (sheet 1 8 7 (binding 0 7 2 0)) ≡ 1
unfolding check sheet binding
none_last = refl

needless : check (sheet 1 7 7 (binding 0 7 2 0 ++ binding 65535 0 0 7)) ≡ 1
unfolding check sheet binding
needless = refl

-- "a second record without that f0 is also 1", be it the number of a chart
unmarked : check (sheet 1 8 8 (binding 0 7 2 0 ++ binding 0 1 9 6)) ≡ 1
unfolding check sheet binding
unmarked = refl

-- an unused field of it
unused_second : check (sheet 1 8 8 (binding 0 7 2 0 ++ binding 65535 1 9 5 ++ (1 ∷ []))) ≡ 1
unfolding check sheet binding
unused_second = refl
