-- Laws of signed words: what their bits say, and words from 0 on.
use Prim.Native.Nat.{ℕ, suc, ◌-◌, ◌<◌}
use mathlib.Core.Path.{◌≡◌, refl, sym, ◌∙◌}
use mathlib.Core.Bool.{true, false, true≢false}
use native.Mathlib.Omega.{arith}
use lib.Dec.{T, ltb, eqb}
use lib.IntN.{ℤ, pos, negsuc, nat_abs}
use lib.Signed.{mag, le_z, lt_z, non_neg}
use mir.Syntax.{w32}
use mir.Val.{SFits, to_z, of_z}
use mir.Facts.{to_z-of_z}
use borrow.Author.Tests.{ltb-true, lt-ltb, le-leb, ne_eqb}
use Rattle.machine.specs.Values.{fits32, is_below, is_zero}

-- what fits is read back from its bits
pub back : {z : ℤ} → SFits w32 z → to_z w32 (of_z w32 z) ≡ z
back h = to_z-of_z h

pub fits_32 : {z : ℤ} → SFits w32 z → fits32 z ≡ true
unfolding fits32
fits_32 {z} h = lt-ltb (mag z) 2147483648 h.sfits

-- .. and so is a word that was read
pub read_back : (z w : ℤ) → z ≡ w → fits32 z ≡ true → to_z w32 (of_z w32 z) ≡ w
unfolding fits32
read_back z w e h = back (record { sfits = ltb-true (mag z) 2147483648 h }) ∙ e

pub zero_bits : (z : ℤ) → SFits w32 z → eqb (of_z w32 z) 0 ≡ is_zero z
unfolding is_zero
zero_bits (pos k) h = refl
zero_bits (negsuc k) h = let l : k < 2147483648 = h.sfits in ne_eqb (4294967296 - suc k) 0 (λ e. omega arith)

-- ---- from 0 on

pub from_zero : (z : ℤ) → lt_z z (pos 0) ≡ false → le_z (pos 0) z ≡ true
from_zero (pos k) e = le-leb 0 k (omega arith)
from_zero (negsuc k) e = absurd (true≢false e)

pub not_negative : (z : ℤ) → le_z (pos 0) z ≡ true → T (non_neg z)
not_negative (pos k) e = tt
not_negative (negsuc k) e = absurd (true≢false (sym e))

pub negative : (z : ℤ) (n : ℕ) → lt_z z (pos 0) ≡ true → false ≡ is_below z n
unfolding is_below
negative (pos k) n e = absurd (let l : k < 0 = ltb-true k 0 e in omega arith)
negative (negsuc k) n e = refl

pub below-number : (z : ℤ) (n : ℕ) → le_z (pos 0) z ≡ true → ltb (nat_abs z) n ≡ is_below z n
unfolding is_below
below-number (pos k) n e = refl
below-number (negsuc k) n e = absurd (true≢false (sym e))

-- a number below another is one from 0 on
pub below-from : (z : ℤ) (n : ℕ) → is_below z n ≡ true → le_z (pos 0) z ≡ true
unfolding is_below
below-from (pos k) n e = le-leb 0 k (omega arith)
below-from (negsuc k) n e = absurd (true≢false (sym e))
