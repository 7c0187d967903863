-- Words one behind another.
use Prim.Native.Nat.{ℕ, ◌+◌, ◌*◌, ◌<◌}
use native.Mathlib.Numerals.{add-one}
use mathlib.Core.Path.{◌≡◌, ap, ◌∙◌}
use mathlib.Core.List.{List, [], ◌∷◌, ◌++◌}
use lib.ListN.{length, take, set}
use lib.Seq.{take-suc-set}
use lib.IntN.{ℤ}
use Rattle.engine_words.specs.Words.{signed_at, words_at}

-- one word more
pub words_more : (b : List ℕ) (at : ℕ) (out : List ℤ) (i : ℕ) (z : ℤ) → i < length out → take i out ≡ words_at b at i → z ≡ signed_at b (at + 4 * i) → take (i + 1) (set out i z) ≡ words_at b at (i + 1)
unfolding words_at
words_more b at out i z l e q = rw (add-one i) (take-suc-set out i z l ∙ ap (λ t. t ++ (z ∷ [])) e ∙ ap (λ w. words_at b at i ++ (w ∷ [])) q)
