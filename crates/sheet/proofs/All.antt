-- Laws of `and` and of `all_below`.
use Prim.Native.Nat.{ℕ, zero, suc, ◌+◌, ◌<◌, ◌≤◌}
use mathlib.Core.Path.{◌≡◌, refl, sym, ◌∙◌}
use mathlib.Core.Bool.{Bool, true, false, true≢false}
use native.Mathlib.Omega.{arith}
use native.Mathlib.Numerals.{add-one}
use native.Mathlib.Decide.{dec_lt}
use Rattle.sheet.specs.All.{◌and◌, all_below}

pub true_false : {b : Bool} → b ≡ true → b ≡ false → ⊥
true_false p q = true≢false (sym p ∙ q)

-- what is not true is false
pub not_so : (b : Bool) → (b ≡ true → ⊥) → b ≡ false
not_so true h = absurd (h refl)
not_so false h = refl

pub and-true : (a b : Bool) → a ≡ true → b ≡ true → a and b ≡ true
unfolding ◌and◌
and-true a b p q = rw (p, q) refl

pub and_first : (a b : Bool) → a and b ≡ true → a ≡ true
unfolding ◌and◌
and_first true b e = refl
and_first false b e = e

pub and_second : (a b : Bool) → a and b ≡ true → b ≡ true
unfolding ◌and◌
and_second true b e = e
and_second false b e = absurd (true≢false (sym e))

pub true-and : (a b : Bool) → a ≡ true → a and b ≡ b
unfolding ◌and◌
true-and a b e = rw e refl

pub false-and : (a b : Bool) → a ≡ false → a and b ≡ false
unfolding ◌and◌
false-and a b e = rw e refl

pub and-false : (a b : Bool) → b ≡ false → a and b ≡ false
unfolding ◌and◌
and-false true b e = e
and-false false b e = refl

pub all_more : (n : ℕ) (p : ℕ → Bool) → all_below n p ≡ true → p n ≡ true → all_below (n + 1) p ≡ true
unfolding all_below
all_more n p h e = rw add-one (and-true (all_below n p) (p n) h e)

pub all-at : (n : ℕ) (p : ℕ → Bool) → all_below n p ≡ true → (i : ℕ) → i < n → p i ≡ true
unfolding all_below
all-at zero p h i l = absurd (omega arith)
all-at (suc n) p h i l = elim (dec_lt i n) [
  | yes q ↦ all-at n p (and_first _ _ h) i q
  | no q ↦ (let e : i ≡ n = omega arith in rw e (and_second _ _ h))
]

pub all_true : (n : ℕ) (p : ℕ → Bool) → ((i : ℕ) → i < n → p i ≡ true) → all_below n p ≡ true
unfolding all_below
all_true zero p h = refl
all_true (suc n) p h = and-true _ _ (all_true n p (λ i l. h i (omega arith))) (h n (omega arith))

-- tests that agree below n
pub all_same : (n : ℕ) (p q : ℕ → Bool) → ((i : ℕ) → i < n → p i ≡ q i) → all_below n p ≡ all_below n q
unfolding all_below
all_same zero p q h = refl
all_same (suc n) p q h = rw (all_same n p q (λ i l. h i (omega arith)), h n (omega arith)) refl

pub all_fails_lem : (n : ℕ) (p : ℕ → Bool) (i : ℕ) → i < n → p i ≡ false → all_below n p ≡ false
all_fails_lem n p i l e = not_so _ (λ h. true_false (all-at n p h i l) e)

-- ---- the same, as a test in code comes to its answer

pub first_fails_lem : (a b : Bool) → a ≡ false → false ≡ a and b
first_fails_lem a b e = sym (false-and a b e)

pub rest_fails : (a b : Bool) → false ≡ b → false ≡ a and b
rest_fails a b e = sym (and-false a b (sym e))

pub first_holds : (a b x : Bool) → a ≡ true → x ≡ b → x ≡ a and b
first_holds a b x e f = f ∙ sym (true-and a b e)

-- a loop that tests every i below n, where n is the count m, leaves at an i that fails
pub loop_fails : (n m i : ℕ) (p : ℕ → Bool) → n ≡ m → i < n → p i ≡ false → false ≡ all_below m p
loop_fails n m i p e l f = sym (all_fails_lem m p i (rw e at l) f)

-- .. or ends with every i tested
pub loop_ends : (n m i : ℕ) (p : ℕ → Bool) → n ≡ m → i ≤ n → n ≤ i → all_below i p ≡ true → true ≡ all_below m p
loop_ends n m i p e a b h = let same : m ≡ i = omega arith in sym (rw same h)

-- a number from k on that is not k
pub from_next : (k i : ℕ) → k ≤ i → (i ≡ k → ⊥) → suc k ≤ i
from_next k i h n = omega arith

-- a number below the one after k
pub below_is_lem : (n k : ℕ) → n < suc k → n ≤ k
below_is_lem n k h = omega arith
