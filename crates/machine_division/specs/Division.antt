-- Division of Ints: "div rounds toward minus infinity, with mod still a − b × (a div b)".
use Rattle.std.specs.Prelude.{suc, ℤ, pos, negsuc, neg_ℤ, ◌-ℤ◌, ◌*ℤ◌}
use Rattle.std.specs.Int.Signed.{shr_z}

-- `shr_z a n` is a / n rounded down; a / −n is −a / n
unfoldable pub quotient : ℤ → ℤ → ℤ
quotient a (pos n) = shr_z a n
quotient a (negsuc n) = shr_z (neg_ℤ a) (suc n)

unfoldable pub remainder : ℤ → ℤ → ℤ
remainder a b = a -ℤ b *ℤ quotient a b
