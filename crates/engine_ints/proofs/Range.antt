-- Bounds of signed sums, products and quotients, by `mag`; the tests of range and of a zero.
use Rattle.std.specs.Prelude.{Ok, Err}
use Prim.Native.Nat.{ℕ, zero, suc, ◌+◌, ◌-◌, ◌*◌, ◌/◌, ◌≤◌, ◌<◌}
use mathlib.Core.Path.{◌≡◌, refl, sym, ◌∙◌}
use mathlib.Core.Bool.{Bool, true, false, cond}
use native.Mathlib.Omega.{arith}
use native.Mathlib.Nat.{mul-le-mul, div-le_self, le_trans}
use lib.Dec.{ltb, eqb, leb→le, lt→ltb, ltb→lt}
use lib.IntN.{ℤ, pos, negsuc, neg_ℤ, sub_ℕ, ◌+ℤ◌, ◌-ℤ◌, ◌*ℤ◌}
use lib.Signed.{mag, lt_z, quot_z, mag_rem, mag_shr, ◌≤ℤ◌, ◌<ℤ◌}
use mir.Syntax.{w32, w64}
use mir.Val.{SFits, of_z, to_z}
use mir.ValLaws.{to_z-of_z}
use borrow.Author.Tests.{ltb-true, ltb-false, eqb-true, eqb-false, lt-ltb, le-ltb, eq-eqb, ne_eqb}
use Rattle.sheet.proofs.All.{true_false, not_so}
use Rattle.machine_division.specs.Division.{quotient, remainder}
use Rattle.machine_division.proofs.Laws.{positive_divisor, negative_divisor}
use Rattle.machine.specs.Values.{fits32, is_zero}
use Rattle.machine.specs.Eval.{int_out, dividing}
use Rattle.engine_ints.specs.declared.Stop.TheVariants.{Refused}
use Rattle.engine_ints.specs.Work.{work_of}
use Rattle.engine_ints.proofs.Rounding.{left_over}

pub widen : {z : ℤ} → SFits w32 z → SFits w64 z
widen h = record { sfits = omega arith }

-- what fits is read back, at both widths
pub back : {z : ℤ} → SFits w32 z → to_z w32 (of_z w32 z) ≡ z
back {z} h = to_z-of_z w32 z h

pub back64 : {z : ℤ} → SFits w64 z → to_z w64 (of_z w64 z) ≡ z
back64 {z} h = to_z-of_z w64 z h

pub wide : {z : ℤ} → SFits w32 z → to_z w64 (of_z w64 (to_z w32 (of_z w32 z))) ≡ z
wide h = rw (back h) (back64 (widen h))

-- ---- the test of the range

module _ (z : ℤ) (l : ℕ) where
  outside : fits32 z ≡ false → Err (Refused 6 l) ≡ work_of (int_out z l)
  unfolding int_out work_of
  outside e = rw (int_out, e) refl

  pub too_low : lt_z z (negsuc 2147483647) ≡ true → Err (Refused 6 l) ≡ work_of (int_out z l)
  unfolding fits32
  too_low e = outside (low z e)
    where
      low : (z : ℤ) → lt_z z (negsuc 2147483647) ≡ true → ltb (mag z) 2147483648 ≡ false
      low (pos a) e = absurd (true_false e refl)
      low (negsuc a) e = le-ltb a 2147483648 (ltb-true 2147483647 a e)

  pub too_high : lt_z (pos 2147483647) z ≡ true → Err (Refused 6 l) ≡ work_of (int_out z l)
  unfolding fits32
  too_high e = outside (high z e)
    where
      high : (z : ℤ) → lt_z (pos 2147483647) z ≡ true → ltb (mag z) 2147483648 ≡ false
      high (pos a) e = le-ltb a 2147483648 (ltb-true 2147483647 a e)
      high (negsuc a) e = absurd (true_false e refl)

  pub inside : SFits w32 z → Ok (z, l) ≡ work_of (int_out z l)
  unfolding int_out work_of fits32
  inside h = rw (int_out, lt-ltb (mag z) 2147483648 h.sfits) refl

pub within : (z : ℤ) → lt_z z (negsuc 2147483647) ≡ false → lt_z (pos 2147483647) z ≡ false → SFits w32 z
within (pos a) e f = let h = ltb-false 2147483647 a f in record { sfits = omega arith }
within (negsuc a) e f = let h = ltb-false 2147483647 a e in record { sfits = omega arith }

-- ---- magnitudes

mag_subℕ : (a b : ℕ) → mag (sub_ℕ a b) ≤ a + b
mag_subℕ a b = go (ltb a b)
  where
    go : (t : Bool) → mag (cond t (negsuc (b - suc a)) (pos (a - b))) ≤ a + b
    go true = omega arith
    go false = omega arith

mag_add : (x y : ℤ) → mag (x +ℤ y) ≤ mag x + mag y + 1
mag_add (pos a) (pos b) = omega arith
mag_add (pos a) (negsuc b) = omega (arith, mag_subℕ a (suc b))
mag_add (negsuc a) (pos b) = omega (arith, mag_subℕ b (suc a))
mag_add (negsuc a) (negsuc b) = omega arith

mag_minus : (z : ℤ) → mag (neg_ℤ z) ≤ mag z + 1
mag_minus (pos zero) = omega arith
mag_minus (pos (suc n)) = omega arith
mag_minus (negsuc n) = omega arith

mag-neg : (n : ℕ) → mag (neg_ℤ (pos n)) ≤ n
mag-neg zero = omega arith
mag-neg (suc n) = omega arith

mag_mul : (x y : ℤ) → mag (x *ℤ y) ≤ (mag x + 1) * (mag y + 1)
mag_mul (pos a) (pos b) = mul-le-mul (omega arith) (omega arith)
mag_mul (pos a) (negsuc b) = le_trans (mag-neg (a * suc b)) (mul-le-mul (omega arith) (omega arith))
mag_mul (negsuc a) (pos b) = le_trans (mag-neg (suc a * b)) (mul-le-mul (omega arith) (omega arith))
mag_mul (negsuc a) (negsuc b) = mul-le-mul (omega arith) (omega arith)

mag_quot : (x y : ℤ) → mag (quot_z x y) ≤ mag x + 1
mag_quot (pos a) (pos b) = omega (arith, div-le_self a b)
mag_quot (pos a) (negsuc b) = omega (arith, div-le_self a (suc b), mag-neg (a / suc b))
mag_quot (negsuc a) (pos b) = omega (arith, div-le_self (suc a) b, mag-neg (suc a / b))
mag_quot (negsuc a) (negsuc b) = omega (arith, div-le_self (suc a) (suc b))

mag_quotient : (x y : ℤ) → mag (quotient x y) ≤ mag x + 1
unfolding quotient
mag_quotient x (pos n) = omega (arith, mag_shr x n)
mag_quotient x (negsuc n) = omega (arith, mag_shr (neg_ℤ x) (suc n), mag_minus x)

module _ {x y : ℤ} (hx : SFits w32 x) (hy : SFits w32 y) where
  pub mul-fits : SFits w64 (x *ℤ y)
  mul-fits =
      let m : (mag x + 1) * (mag y + 1) ≤ 2147483648 * 2147483648 = mul-le-mul {n₂ = 2147483648} {m₂ = 2147483648} (omega arith) (omega arith) in
      record { sfits = omega (arith, mag_mul x y) }

  pub quot_fits : SFits w64 (quot_z x y)
  quot_fits = record { sfits = omega (arith, mag_quot x y) }

  pub quotient_fits : SFits w64 (quotient x y)
  quotient_fits = record { sfits = omega (arith, mag_quotient x y) }

  -- the divisor times a quotient, rounded either way
  whole-fits : (q : ℤ) → mag q ≤ mag x + 1 → SFits w64 (y *ℤ q)
  whole-fits q h =
      let m : (mag y + 1) * (mag q + 1) ≤ 2147483648 * 2147483649 = mul-le-mul {n₂ = 2147483648} {m₂ = 2147483649} (omega arith) (omega arith) in
      record { sfits = omega (arith, mag_mul y q) }

  pub quot_whole-fits : SFits w64 (y *ℤ quot_z x y)
  quot_whole-fits = whole-fits (quot_z x y) (mag_quot x y)

  pub quotient-whole-fits : SFits w64 (y *ℤ quotient x y)
  quotient-whole-fits = whole-fits (quotient x y) (mag_quotient x y)

  -- the quotient toward zero, less any word
  pub less-fits : {z : ℤ} → SFits w32 z → SFits w64 (quot_z x y -ℤ z)
  less-fits {z} h = record { sfits = omega (arith, mag_quot x y, mag_minus z, mag_add (quot_z x y) (neg_ℤ z)) }

  pub left-over-fits : SFits w32 (x -ℤ y *ℤ quot_z x y)
  left-over-fits = rw (left_over x y) (record { sfits = omega (arith, mag_rem x y) })

  -- mod lies between 0 and its divisor
  pub remainder-fits : is_zero y ≡ false → SFits w32 (remainder x y)
  unfolding is_zero
  remainder-fits e = go y hy e
    where
      low : (r : ℤ) (n : ℕ) → pos 0 ≤ℤ r → r <ℤ pos n → mag r < n
      low (pos k) n l h = ltb→lt k n h.lt
      low (negsuc k) n l h = absurd l.le

      high : (r : ℤ) (n : ℕ) → negsuc n <ℤ r → r ≤ℤ pos 0 → mag r ≤ n
      high (pos k) n l h = let z = leb→le k 0 h.le in omega arith
      high (negsuc k) n l h = let z = ltb→lt k n l.lt in omega arith

      go : (y : ℤ) → SFits w32 y → is_zero y ≡ false → SFits w32 (remainder x y)
      go (pos n) k e = let (l, h) = positive_divisor x (pos n) (record { lt = lt→ltb 0 n (let z = eqb-false n 0 e in omega arith) }) in record { sfits = omega (arith, low (remainder x (pos n)) n l h) }
      go (negsuc n) k e = let (l, h) = negative_divisor x (negsuc n) (record { lt = tt }) in record { sfits = omega (arith, high (remainder x (negsuc n)) n l h) }

-- ---- tests of a zero, which go by the bits

pub zero_bits : (z : ℤ) → SFits w32 z → eqb (of_z w32 z) 0 ≡ is_zero z
unfolding is_zero
zero_bits (pos n) h = refl
zero_bits (negsuc n) h = ne_eqb (4294967296 - suc n) 0 (λ e. let k = h.sfits in omega arith)

pub is_zero_lem : {z : ℤ} → SFits w32 z → of_z w32 z ≡ 0 → is_zero z ≡ true
is_zero_lem {z} h e = sym (zero_bits z h) ∙ eq-eqb (of_z w32 z) 0 e

pub not-zero : {z : ℤ} → SFits w32 z → (of_z w32 z ≡ 0 → ⊥) → is_zero z ≡ false
not-zero {z} h n = sym (zero_bits z h) ∙ ne_eqb (of_z w32 z) 0 n

-- the same of the wider number
pub is_zero_wide : {z : ℤ} → SFits w32 z → of_z w64 (to_z w32 (of_z w32 z)) ≡ 0 → is_zero z ≡ true
unfolding is_zero
is_zero_wide {z} h e = go z h (rw (back h) at e)
  where
    go : (z : ℤ) → SFits w32 z → of_z w64 z ≡ 0 → is_zero z ≡ true
    go (pos n) h e = eq-eqb n 0 e
    go (negsuc n) h e = absurd (omega arith)

pub not_zero_wide : {z : ℤ} → SFits w32 z → (of_z w64 (to_z w32 (of_z w32 z)) ≡ 0 → ⊥) → is_zero z ≡ false
unfolding is_zero
not_zero_wide {z} h n = not_so _ (λ e. n (rw (back h) (go z e)))
  where
    go : (z : ℤ) → is_zero z ≡ true → of_z w64 z ≡ 0
    go (pos n) e = eqb-true n 0 e
    go (negsuc n) e = absurd (true_false e refl)

pub divisor : {z : ℤ} → SFits w32 z → is_zero z ≡ false → 0 < of_z w64 (to_z w32 (of_z w32 z))
unfolding is_zero
divisor {z} h e = rw (back h) (go z h e)
  where
    go : (z : ℤ) → SFits w32 z → is_zero z ≡ false → 0 < of_z w64 z
    go (pos n) h e = let z = eqb-false n 0 e in omega arith
    go (negsuc n) h e = omega arith

module _ (b z : ℤ) (l : ℕ) where
  pub by_zero : is_zero b ≡ true → Err (Refused 6 l) ≡ work_of (dividing b z l)
  unfolding dividing work_of
  by_zero e = rw (dividing, e) refl

  pub by_other : is_zero b ≡ false → work_of (int_out z l) ≡ work_of (dividing b z l)
  unfolding dividing
  by_other e = rw (dividing, e) refl
