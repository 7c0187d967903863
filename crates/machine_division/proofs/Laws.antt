-- What div and mod give, for every a and b.
use Prim.Native.Nat.{ℕ, zero, suc, ◌+◌, ◌-◌, ◌*◌, ◌/◌, ◌%◌, ◌≤◌, ◌<◌}
use mathlib.Core.Path.{◌≡◌, refl, sym, ap, ◌∙◌}
use native.Mathlib.Omega.{arith}
use native.Mathlib.Nat.{mul-suc, mod-lt, mod-add-div, zero-mod, mod-eq_of_lt, div-one, div-le_self, div-lt_self}
use lib.Dec.{le→leb, lt→ltb, ltb→lt}
use lib.IntN.{ℤ, pos, negsuc, neg_ℤ, sub_ℕ, ◌+ℤ◌, ◌-ℤ◌, ◌*ℤ◌, +ℤ_comm, -ℤ-+ℤ_cancel, +ℤ-neg_ℤ_cancel, -ℤ_one, neg_ℤ-+ℤ, neg_ℤ-neg_ℤ, *ℤ_comm, zero-*ℤ}
use lib.Signed.{mag, shr_z, mag_shr, ◌≤ℤ◌, ◌<ℤ◌}
use Rattle.machine_division.specs.Division.{quotient, remainder}

-- b × (a div b) + (a mod b) = a
divided : (a b : ℤ) → b *ℤ quotient a b +ℤ remainder a b ≡ a
unfolding remainder
divided a b = +ℤ_comm (b *ℤ quotient a b) (remainder a b) ∙ -ℤ-+ℤ_cancel a (b *ℤ quotient a b)

-- ---- products of a negated number

pub minus-times : (x y : ℤ) → neg_ℤ x *ℤ y ≡ neg_ℤ (x *ℤ y)
minus-times (pos zero) y = zero-*ℤ y ∙ sym (ap neg_ℤ (zero-*ℤ y))
minus-times (pos (suc n)) (pos k) = refl
minus-times (pos (suc n)) (negsuc k) = sym (neg_ℤ-neg_ℤ (pos (suc n * suc k)))
minus-times (negsuc n) (pos k) = sym (neg_ℤ-neg_ℤ (pos (suc n * k)))
minus-times (negsuc n) (negsuc k) = refl

pub times-minus : (x y : ℤ) → x *ℤ neg_ℤ y ≡ neg_ℤ (x *ℤ y)
times-minus x y = *ℤ_comm x (neg_ℤ y) ∙ minus-times y x ∙ ap neg_ℤ (*ℤ_comm y x)

-- ---- the remainder's sign is the divisor's

-- what is left over a positive divisor
rest : ℤ → ℕ → ℕ
rest (pos a) n = a % n
rest (negsuc a) n = n - suc (a % n)

rest_below : (a : ℤ) {n : ℕ} → 0 < n → rest a n < n
unfolding rest
rest_below (pos a) h = mod-lt a h
rest_below (negsuc a) h = omega arith

-- a less the whole divisors in it
pub over : (a n : ℕ) → pos a -ℤ pos (n * (a / n)) ≡ pos (a % n)
over a n = sym (ap (λ (k : ℕ). pos k -ℤ pos (n * (a / n))) (mod-add-div a n)) ∙ +ℤ-neg_ℤ_cancel (pos (a % n)) (pos (n * (a / n)))

by_positive : (a : ℤ) {n : ℕ} → 0 < n → remainder a (pos n) ≡ pos (rest a n)
unfolding quotient remainder rest
by_positive (pos a) {n} h = over a n
by_positive (negsuc a) {n} h =
    let whole : n * suc (a / n) ≡ n - suc (a % n) + suc a = omega (arith, mul-suc n (a / n), mod-add-div a n, mod-lt a h) in
    ap (λ (z : ℤ). negsuc a +ℤ z) (neg_ℤ-neg_ℤ (pos (n * suc (a / n)))) ∙ ap (λ (k : ℕ). sub_ℕ k (suc a)) whole ∙ +ℤ-neg_ℤ_cancel (pos (n - suc (a % n))) (pos (suc a))

-- by −n it is that of −a by n, with the other sign
by_negative : (a : ℤ) (n : ℕ) → remainder a (negsuc n) ≡ neg_ℤ (remainder (neg_ℤ a) (pos (suc n)))
unfolding quotient remainder
by_negative a n = ap (λ (z : ℤ). a -ℤ z) (minus-times (pos (suc n)) (shr_z (neg_ℤ a) (suc n))) ∙ sym (neg_ℤ-+ℤ (neg_ℤ a) (neg_ℤ (pos (suc n) *ℤ shr_z (neg_ℤ a) (suc n))) ∙ ap (λ (z : ℤ). z +ℤ neg_ℤ (neg_ℤ (pos (suc n) *ℤ shr_z (neg_ℤ a) (suc n)))) (neg_ℤ-neg_ℤ a))

-- "with a positive divisor mod is never negative", and it is below the divisor
pub positive_divisor : (a b : ℤ) → pos 0 <ℤ b → (pos 0 ≤ℤ remainder a b) × (remainder a b <ℤ b)
positive_divisor a (pos n) h =
    let p = ltb→lt 0 n h.lt in
    rw (by_positive a p) (record { le = le→leb 0 (rest a n) (omega arith) }, record { lt = lt→ltb (rest a n) n (rest_below a p) })
positive_divisor a (negsuc n) h = absurd h.lt

-- with a negative one it is at most 0 and above the divisor
pub negative_divisor : (a b : ℤ) → b <ℤ pos 0 → (b <ℤ remainder a b) × (remainder a b ≤ℤ pos 0)
negative_divisor a (pos n) h = let p = ltb→lt n 0 h.lt in absurd (omega arith)
negative_divisor a (negsuc n) h = rw (by_negative a n, by_positive (neg_ℤ a) {n = suc n} (omega arith)) (turned (rest (neg_ℤ a) (suc n)) (rest_below (neg_ℤ a) (omega arith)))
  where
    turned : (r : ℕ) → r < suc n → (negsuc n <ℤ neg_ℤ (pos r)) × (neg_ℤ (pos r) ≤ℤ pos 0)
    turned zero k = (record { lt = tt }, record { le = le→leb 0 0 (omega arith) })
    turned (suc r) k = (record { lt = lt→ltb r n (omega arith) }, record { le = tt })

-- ---- what overflows: a divided by −1 is −a, and no other divisor makes a number larger

by_minus-one : (a : ℤ) → quotient a (negsuc 0) ≡ neg_ℤ a
unfolding quotient
by_minus-one a = whole (neg_ℤ a)
  where
    whole : (z : ℤ) → shr_z z 1 ≡ z
    whole (pos n) = ap pos (div-one n)
    whole (negsuc n) = ap negsuc (div-one n)

no_larger : (a b : ℤ) → (b ≡ negsuc 0 → ⊥) → mag (quotient a b) ≤ mag a
unfolding quotient
no_larger a (pos n) e = mag_shr a n
no_larger a (negsuc zero) e = absurd (e refl)
no_larger (pos zero) (negsuc (suc n)) e = div-le_self 0 (suc (suc n))
no_larger (pos (suc a)) (negsuc (suc n)) e = omega (arith, div-le_self a (suc (suc n)))
no_larger (negsuc a) (negsuc (suc n)) e = let h : suc a / suc (suc n) < suc a = div-lt_self (omega arith) (omega arith) in omega arith

-- ---- stepping left round a list: (Pointer − 1) mod (Length + 1)

-- from 0 to the end
left_of_first : (n : ℕ) → remainder (pos 0 -ℤ pos 1) (pos n +ℤ pos 1) ≡ pos n
unfolding rest
left_of_first n = by_positive (negsuc 0) (omega arith) ∙ ap pos (let z = zero-mod (n + 1) in omega arith)

-- from any other place to the one before
left_of_next : (p n : ℕ) → p < n → remainder (pos (suc p) -ℤ pos 1) (pos n +ℤ pos 1) ≡ pos p
unfolding rest
left_of_next p n h = ap (λ (z : ℤ). remainder z (pos n +ℤ pos 1)) (-ℤ_one (pos (suc p))) ∙ by_positive (pos p) (omega arith) ∙ ap pos (mod-eq_of_lt (omega arith))
