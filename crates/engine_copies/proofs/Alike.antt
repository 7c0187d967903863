-- One list like another, word for word up to a number.
use Prim.Native.Nat.{ℕ, ◌+◌, ◌<◌, ◌≤◌}
use mathlib.Core.Path.{◌≡◌, ◌∙◌}
use mathlib.Core.List.{List}
use native.Mathlib.Omega.{arith}
use native.Mathlib.Decide.{ℕ_discrete}
use lib.ListN.{length, set}
use lib.Seq.{ext_get_or}
use lib.IntN.{ℤ, pos}
use Rattle.machine.specs.State.{word_of}
use Rattle.machine_states.proofs.Words.{word_set, word_set_other}

abbrev pub Alike : ℕ → List ℤ → List ℤ → Type 0
Alike i a b = (k : ℕ) → k < i → word_of a k ≡ word_of b k

pub alike_more : (a b : List ℤ) (i : ℕ) (z : ℤ) → i < length a → z ≡ word_of b i → Alike i a b → Alike (i + 1) (set a i z) b
alike_more a b i z l e h k m = elim (ℕ_discrete k i) [
  | yes q ↦ rw q (word_set a i z l ∙ e)
  | no q ↦ word_set_other a i k z q ∙ h k (omega arith)
]

pub alike_all : (a b : List ℤ) (i : ℕ) → length a ≡ length b → length a ≤ i → Alike i a b → a ≡ b
unfolding word_of
alike_all a b i e l h = ext_get_or (pos 0) a b e (λ k m. h k (omega arith))
