-- What code on a state's words comes to.
use Prim.Native.Nat.{ℕ, ◌<◌}
use mathlib.Core.Path.{◌≡◌, sym, ◌∙◌}
use mathlib.Core.Bool.{true, false}
use native.Mathlib.Omega.{arith}
use lib.ListN.{replicate, get_or-replicate}
use lib.IntN.{ℤ, pos, negsuc}
use lib.Signed.{mag}
use mir.Syntax.{w32}
use mir.Val.{SFits, of_z, to_z}
use mir.ValLaws.{to_z-of_z}
use borrow.Author.Tests.{eq-eqb, ne_eqb}
use Rattle.machine.specs.Values.{same_word}
use Rattle.machine.specs.State.{word_of}
use Rattle.engine_ints.proofs.Words.{same_bits}

-- ---- words

-- a word that lies in a slice or a struct, as code reads it
pub given : (z : ℤ) → mag z < 2147483648 → to_z w32 (of_z w32 z) ≡ z
given z h = to_z-of_z w32 z (record { sfits = h })

-- ---- tests of words, which go by the bits

module _ {z w : ℤ} (h : SFits w32 z) (k : SFits w32 w) where
  pub bits_same : of_z w32 z ≡ of_z w32 w → same_word z w ≡ true
  bits_same e = sym (same_bits z w h k) ∙ eq-eqb _ _ e

  pub bits_differ : (of_z w32 z ≡ of_z w32 w → ⊥) → same_word z w ≡ false
  bits_differ n = sym (same_bits z w h k) ∙ ne_eqb _ _ n

-- the port of an internal telegram is -1
module _ (z : ℤ) (h : SFits w32 z) where
  pub port-inside : of_z w32 z ≡ 4294967295 → same_word z (negsuc 0) ≡ true
  port-inside e = bits_same h (record { sfits = omega arith }) e

  pub port-outside : (of_z w32 z ≡ 4294967295 → ⊥) → same_word z (negsuc 0) ≡ false
  port-outside e = bits_differ h (record { sfits = omega arith }) e

-- ---- zeros

pub word_zeros : (n k : ℕ) → k < n → word_of (replicate n (pos 0)) k ≡ pos 0
unfolding word_of
word_zeros n k l = get_or-replicate n k (pos 0) (pos 0) l
