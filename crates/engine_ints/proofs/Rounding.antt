-- The language's division rounds toward zero: what it leaves, and where its quotient is one too high.
use Prim.Native.Nat.{ℕ, zero, suc, ◌+◌, ◌*◌, ◌/◌, ◌%◌}
use mathlib.Core.Path.{◌≡◌, refl, sym, ap, ◌∙◌}
use mathlib.Core.Bool.{false}
use native.Mathlib.Omega.{arith}
use native.Mathlib.Decide.{dec_lt}
use native.Mathlib.Nat.{zero-mul, suc-mul, zero-div, zero-mod, mod-lt, div-add-mod, mul-add-div, suc-mod, div-eq_of_lt, mod-eq_of_lt, div_self, mod_self}
use lib.IntN.{ℤ, pos, negsuc, neg_ℤ, ◌-ℤ◌, ◌*ℤ◌, +ℤ_idr, -ℤ_one, neg_ℤ-+ℤ, neg_ℤ-neg_ℤ}
use lib.Signed.{lt_z, quot_z, rem_z}
use borrow.Author.Tests.{le-ltb, eqb-false}
use Rattle.machine_division.specs.Division.{quotient}
use Rattle.machine_division.proofs.Laws.{minus-times, times-minus, over}
use Rattle.machine.specs.Values.{is_zero}
use Rattle.machine.specs.Eval.{bool_word}

both-minus : (m n : ℕ) → neg_ℤ (pos m) *ℤ neg_ℤ (pos n) ≡ pos (m * n)
both-minus m n = minus-times (pos m) (neg_ℤ (pos n)) ∙ ap neg_ℤ (times-minus (pos m) (pos n)) ∙ neg_ℤ-neg_ℤ (pos (m * n))

-- ---- what is left over

under : (a b : ℕ) → neg_ℤ (pos a) -ℤ neg_ℤ (pos (b * (a / b))) ≡ neg_ℤ (pos (a % b))
under a b = sym (neg_ℤ-+ℤ (pos a) (neg_ℤ (pos (b * (a / b))))) ∙ ap neg_ℤ (over a b)

pub left_over : (x y : ℤ) → x -ℤ y *ℤ quot_z x y ≡ rem_z x y
left_over (pos a) (pos b) = over a b
left_over (pos a) (negsuc b) = ap (λ (z : ℤ). pos a -ℤ z) (both-minus (suc b) (a / suc b)) ∙ over a (suc b)
left_over (negsuc a) (pos b) = ap (λ (z : ℤ). negsuc a -ℤ z) (times-minus (pos b) (pos (suc a / b))) ∙ under (suc a) b
left_over (negsuc a) (negsuc b) = under (suc a) (suc b)

-- ---- rounding down

module _ (a n : ℕ) where
  -- a's rest and one more, over the divisor
  next_div : suc a / suc n ≡ a / suc n + suc (a % suc n) / suc n
  next_div = ap (λ (k : ℕ). k / suc n) (let e = div-add-mod a (suc n) in omega arith) ∙ mul-add-div (omega arith) (a / suc n) (suc (a % suc n))

  -- −(a + 1) over n + 1: one less where something is left
  down : neg_ℤ (pos (suc a / suc n)) -ℤ bool_word (lt_z (neg_ℤ (pos (suc a % suc n * suc n))) (pos 0)) ≡ negsuc (a / suc n)
  down = elim (dec_lt (suc (a % suc n)) (suc n)) [
    | yes h ↦ (
        let d : suc a / suc n ≡ a / suc n = next_div ∙ (let z = div-eq_of_lt h in omega arith) in
        let m : suc a % suc n ≡ suc (a % suc n) = suc-mod a (suc n) ∙ mod-eq_of_lt h in
        let p : suc (a % suc n) * suc n ≡ suc (a % suc n * suc n + n) = omega (arith, suc-mul (a % suc n) (suc n)) in
        rw (d, m, p) (one_less (a / suc n)))
    | no h ↦ (
        let e : suc (a % suc n) ≡ suc n = (let l = mod-lt a {m = suc n} (omega arith) in omega arith) in
        let d : suc a / suc n ≡ suc (a / suc n) = next_div ∙ ap (λ (k : ℕ). a / suc n + k / suc n) e ∙ (let z = div_self {n = suc n} (omega arith) in omega arith) in
        let m : suc a % suc n ≡ 0 = suc-mod a (suc n) ∙ ap (λ (k : ℕ). k % suc n) e ∙ mod_self (suc n) in
        rw (d, m, zero-mul (suc n)) (+ℤ_idr (negsuc (a / suc n))))
  ]
    where
      one_less : (k : ℕ) → neg_ℤ (pos k) -ℤ pos 1 ≡ negsuc k
      one_less zero = refl
      one_less (suc k) = -ℤ_one (negsuc k)

-- The quotient toward zero is one too high where what is left has the other sign than the divisor: where their product is below 0
pub rounded : (x y : ℤ) → is_zero y ≡ false → quot_z x y -ℤ bool_word (lt_z ((x -ℤ y *ℤ quot_z x y) *ℤ y) (pos 0)) ≡ quotient x y
unfolding quotient is_zero
rounded x y e = rw (left_over x y) (go x y e)
  where
    go : (x y : ℤ) → is_zero y ≡ false → quot_z x y -ℤ bool_word (lt_z (rem_z x y *ℤ y) (pos 0)) ≡ quotient x y
    go (pos a) (pos b) e = rw (le-ltb (a % b * b) 0 (omega arith)) (+ℤ_idr (pos (a / b)))
    go (pos zero) (negsuc b) e = rw (zero-div (suc b), zero-mod (suc b), zero-mul (suc b)) refl
    go (pos (suc a)) (negsuc b) e = down a b
    go (negsuc a) (pos zero) e = absurd (eqb-false 0 0 e refl)
    go (negsuc a) (pos (suc b)) e = rw (minus-times (pos (suc a % suc b)) (pos (suc b))) (down a b)
    go (negsuc a) (negsuc b) e = rw (both-minus (suc a % suc b) (suc b), le-ltb (suc a % suc b * suc b) 0 (omega arith)) (+ℤ_idr (pos (suc a / suc b)))
