-- Text in ASCII: bytes put into a buffer, and numbers as decimal digits.
use Rattle.std.specs.Prelude.{ℕ, zero, suc, ◌+◌, ◌/◌, ◌%◌, ◌≡◌, true, false, List, [], ◌∷◌, ◌++◌, length, take, drop, ltb, leb, ℤ, pos, negsuc}

-- n's digits, the most significant first, where k are enough
unfoldable pub digits : ℕ → ℕ → List ℕ
digits zero n = []
digits (suc k) n = elim (ltb n 10) [ true ↦ (48 + n) ∷ [] | false ↦ digits k (n / 10) ++ ((48 + n % 10) ∷ []) ]

-- a number below 10^20, as those of 64 bits are
unfoldable pub decimal : ℕ → List ℕ
decimal n = digits 20 n

-- 45 is the minus sign
unfoldable pub signed : ℤ → List ℕ
signed (pos n) = decimal n
signed (negsuc n) = 45 ∷ decimal (suc n)

-- a buffer with a text in the place of what stood there
unfoldable pub placed : List ℕ → ℕ → List ℕ → List ℕ
placed xs at t = take at xs ++ t ++ drop (at + length t) xs

-- the text was put at a place, and the place behind it is given
pub record Put (before : List ℕ) (at : ℕ) (t after : List ℕ) (behind : ℕ) : Type 0 where
  pub text : after ≡ placed before at t
  pub end : behind ≡ at + length t

-- a text that ends at a place goes on there, or at the buffer's start once less than `room` is left
unfoldable pub place_with_room : ℕ → ℕ → ℕ → ℕ
place_with_room size at room = elim (leb (at + room) size) [ true ↦ at | false ↦ 0 ]
