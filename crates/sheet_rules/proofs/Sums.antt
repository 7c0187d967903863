-- Laws of sums and counts.
use Prim.Native.Nat.{ℕ, zero, suc, ◌+◌, ◌*◌, ◌-◌, ◌≤◌, ◌<◌}
use mathlib.Core.Path.{◌≡◌, refl, sym, ap, ◌∙◌, fun_ext}
use mathlib.Core.Bool.{Bool, true, false}
use native.Mathlib.Omega.{arith}
use native.Mathlib.Decide.{dec_lt}
use native.Mathlib.Nat.{zero-mul, add-mul, one-mul}
use lib.Dec.{eqb}
use borrow.Author.Tests.{eq-eqb, ne_eqb}
use Rattle.sheet_rules.specs.Fields.{one_if, sum_below, count_below}

pub one_same : (n : ℕ) → one_if (eqb n n) ≡ 1
one_same n = rw (eq-eqb n n refl) refl

pub one_other : (m n : ℕ) → (m ≡ n → ⊥) → one_if (eqb m n) ≡ 0
one_other m n h = rw (ne_eqb m n h) refl

pub sum_same : (n : ℕ) (f g : ℕ → ℕ) → ((i : ℕ) → i < n → f i ≡ g i) → sum_below n f ≡ sum_below n g
unfolding sum_below
sum_same zero f g h = refl
sum_same (suc n) f g h = omega (arith, sum_same n f g (λ i l. h i (omega arith)), h n (omega arith))

pub sum-zero : (n : ℕ) (f : ℕ → ℕ) → ((i : ℕ) → i < n → f i ≡ 0) → sum_below n f ≡ 0
unfolding sum_below
sum-zero zero f h = refl
sum-zero (suc n) f h = omega (arith, sum-zero n f (λ i l. h i (omega arith)), h n (omega arith))

pub sum_most : (n : ℕ) (f g : ℕ → ℕ) → ((i : ℕ) → i < n → f i ≤ g i) → sum_below n f ≤ sum_below n g
unfolding sum_below
sum_most zero f g h = omega arith
sum_most (suc n) f g h = omega (arith, sum_most n f g (λ i l. h i (omega arith)), h n (omega arith))

-- the sum over two functions that differ at one place, where the first is 0
pub sum_changed : (n : ℕ) (f g : ℕ → ℕ) (m : ℕ) → m < n → f m ≡ 0 → ((i : ℕ) → (i ≡ m → ⊥) → g i ≡ f i) → sum_below n g ≡ sum_below n f + g m
unfolding sum_below
sum_changed zero f g m l z h = absurd (omega arith)
sum_changed (suc n) f g m l z h = elim (dec_lt m n) [
  | yes q ↦ omega (arith, sum_changed n f g m q z h, h n (λ e. omega arith))
  | no q ↦ (let e : n ≡ m = omega arith in omega (arith, sum_same n g f (λ i k. h i (λ d. omega arith)), ap f e, ap g e))
]

pub sum_at : (n : ℕ) (f : ℕ → ℕ) (m : ℕ) → m < n → f m ≤ sum_below n f
unfolding sum_below
sum_at zero f m l = absurd (omega arith)
sum_at (suc n) f m l = elim (dec_lt m n) [
  | yes q ↦ omega (arith, sum_at n f m q)
  | no q ↦ (let e : n ≡ m = omega arith in omega (arith, ap f e))
]

pub sum-add : (n : ℕ) (f g : ℕ → ℕ) → sum_below n (λ i. f i + g i) ≡ sum_below n f + sum_below n g
unfolding sum_below
sum-add zero f g = refl
sum-add (suc n) f g = omega (arith, sum-add n f g)

sum_swap : (a b : ℕ) (f : ℕ → ℕ → ℕ) → sum_below a (λ i. sum_below b (f i)) ≡ sum_below b (λ j. sum_below a (λ i. f i j))
unfolding sum_below
sum_swap zero b f = sym (sum-zero b _ (λ i l. refl))
sum_swap (suc a) b f = ap (λ (x : ℕ). x + sum_below b (f a)) (sum_swap a b f) ∙ sym (sum-add b (λ j. sum_below a (λ i. f i j)) (f a))

sum_times : (n : ℕ) (f : ℕ → ℕ) (c : ℕ) → sum_below n (λ i. f i * c) ≡ sum_below n f * c
unfolding sum_below
sum_times zero f c = sym (zero-mul c)
sum_times (suc n) f c = ap (λ (x : ℕ). x + f n * c) (sum_times n f c) ∙ sym (add-mul (sum_below n f) (f n) c)

-- a sum in two parts
pub sum_split : (a b : ℕ) (f : ℕ → ℕ) → sum_below (a + b) f ≡ sum_below a f + sum_below b (λ j. f (a + j))
unfolding sum_below
sum_split a zero f = omega (arith, ap (λ (x : ℕ). sum_below x f) (let e : a + zero ≡ a = omega arith in e))
sum_split a (suc b) f = omega (arith, ap (λ (x : ℕ). sum_below x f) (let e : a + suc b ≡ suc (a + b) = omega arith in e), sum_split a b f)

-- terms that are each a number and a weighted sum, together
pub sum_both : (a b : ℕ) (v f : ℕ → ℕ) (g : ℕ → ℕ → ℕ) (d : ℕ → ℕ) → ((i : ℕ) → v i ≡ f i + sum_below b (λ m. g i m * d m)) → sum_below a v ≡ sum_below a f + sum_below b (λ m. sum_below a (λ i. g i m) * d m)
sum_both a b v f g d h =
    ap (sum_below a) (fun_ext h)
    ∙ sum-add a f (λ i. sum_below b (λ m. g i m * d m))
    ∙ ap (λ (x : ℕ). sum_below a f + x) (sum_swap a b (λ i m. g i m * d m) ∙ sum_same b _ _ (λ m l. sum_times a (λ i. g i m) (d m)))

-- the one term that a number picks
pub sum_pick : (n m : ℕ) (g : ℕ → ℕ) → m < n → sum_below n (λ i. one_if (eqb m i) * g i) ≡ g m
sum_pick n m g l =
    sum_changed n (λ i. 0) (λ i. one_if (eqb m i) * g i) m l refl (λ i d. ap (λ (x : ℕ). x * g i) (one_other m i (λ e. d (sym e))) ∙ zero-mul (g i))
    ∙ ap (λ (x : ℕ). x + one_if (eqb m m) * g m) (sum-zero n (λ i. 0) (λ i k. refl))
    ∙ zero_and (ap (λ (x : ℕ). x * g m) (one_same m) ∙ one-mul (g m))
  where
    zero_and : {x : ℕ} → x ≡ g m → 0 + x ≡ g m
    zero_and e = omega (arith, e)

-- a sum up to a term lies below a longer one
pub sum_rises : (f : ℕ → ℕ) (n m : ℕ) → n < m → sum_below n f + f n ≤ sum_below m f
unfolding sum_below
sum_rises f n zero l = absurd (omega arith)
sum_rises f n (suc m) l = elim (dec_lt n m) [ yes q ↦ omega (arith, sum_rises f n m q) | no q ↦ (let e : n ≡ m = omega arith in rw e (omega arith)) ]

-- a sum that isn't 0 has a term that isn't
pub sum_some : (n : ℕ) (f : ℕ → ℕ) → 1 ≤ sum_below n f → (i : ℕ) × (i < n) × (1 ≤ f i)
unfolding sum_below
sum_some zero f h = absurd (omega arith)
sum_some (suc n) f h = elim (dec_lt 0 (f n)) [
  | yes q ↦ (n, omega arith, q)
  | no q ↦ (let r = sum_some n f (omega arith) in (r.0, omega (arith, r.1), r.2))
]

-- ---- counts

one_most : (b : Bool) → one_if b ≤ 1
one_most true = omega arith
one_most false = omega arith

-- further numbers add none or one each
pub count-on : (p : ℕ → Bool) (j n : ℕ) → j ≤ n → (count_below j p ≤ count_below n p) × (count_below n p ≤ count_below j p + (n - j))
unfolding count_below sum_below
count-on p j zero l = let e : j ≡ 0 = omega arith in rw e (omega arith, omega arith)
count-on p j (suc n) l = elim (dec_lt j (suc n)) [
  | yes q ↦ (let r = count-on p j n (omega arith) in let a = r.0 in let b = r.1 in let o = one_most (p n) in (omega arith, omega arith))
  | no q ↦ (let e : j ≡ suc n = omega arith in rw e (omega arith, omega arith))
]

-- without one number, those behind it closing up, no more are counted
pub count_closed : (n : ℕ) (p q : ℕ → Bool) (j : ℕ) → j ≤ n → ((k : ℕ) → k < j → q k ≡ p k) → ((k : ℕ) → j ≤ k → k < n → q k ≡ p (suc k)) → count_below n q ≤ count_below (suc n) p
unfolding count_below sum_below
count_closed zero p q j l early late = omega arith
count_closed (suc n) p q j l early late = elim (dec_lt j (suc n)) [
  | yes m ↦ omega (arith, count_closed n p q j (omega arith) early (λ k a b. late k a (omega arith)), ap one_if (late n (omega arith) (omega arith)))
  | no m ↦ omega (arith, sum_same (suc n) (λ i. one_if (q i)) (λ i. one_if (p i)) (λ i k. ap one_if (early i (omega arith))))
]

-- the term of a sum that a lower number lies in, and how far in it
pub sum_within : (f : ℕ → ℕ) (n i : ℕ) → i < sum_below n f → (m : ℕ) × (k : ℕ) × (m < n) × (k < f m) × (sum_below m f + k ≡ i)
unfolding sum_below
sum_within f zero i l = absurd (omega arith)
sum_within f (suc n) i l = elim (dec_lt i (sum_below n f)) [
  | yes q ↦ (let r = sum_within f n i q in (r.0, r.1, omega (arith, r.2), r.3, r.4))
  | no q ↦ (n, i - sum_below n f, omega arith, omega arith, omega arith)
]
