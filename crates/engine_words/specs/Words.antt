-- Little-endian numbers of 32 bits in bytes.
use Rattle.std.specs.Prelude.{ℕ, zero, suc, ◌+◌, ◌*◌, List, [], ◌∷◌, ◌++◌, get_or, ℤ}
use Rattle.std.specs.Int.{w32}
use Rattle.std.proofs.Common.{to_z}

unfoldable pub number_at : List ℕ → ℕ → ℕ
number_at b at = get_or b at 0 + 256 * get_or b (at + 1) 0 + 65536 * get_or b (at + 2) 0 + 16777216 * get_or b (at + 3) 0

-- the same as a signed number, in two's complement
unfoldable pub signed_at : List ℕ → ℕ → ℤ
signed_at b at = to_z w32 (number_at b at)

-- k words side by side
unfoldable pub words_at : List ℕ → ℕ → ℕ → List ℤ
words_at b at zero = []
words_at b at (suc k) = words_at b at k ++ (signed_at b (at + 4 * k) ∷ [])
