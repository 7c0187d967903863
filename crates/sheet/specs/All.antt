-- Joining tests: both of two, and one for every number below a bound.
use Rattle.std.specs.Prelude.{ℕ, zero, suc, Bool, true, false}

infixr 35 ◌and◌
-- Unlike the library's `&&` it stays shut, so that a proof can name its two sides.
unfoldable pub ◌and◌ : Bool → Bool → Bool
true and b = b
false and b = false

unfoldable pub all_below : ℕ → (ℕ → Bool) → Bool
all_below zero p = true
all_below (suc n) p = all_below n p and p n
