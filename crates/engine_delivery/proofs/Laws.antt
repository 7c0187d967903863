-- Telegrams as code reads them.
use Prim.Native.Nat.{ℕ, ◌<◌}
use mathlib.Core.Path.{◌≡◌, refl, ap, ◌∙◌}
use mathlib.Core.List.{[], ◌∷◌}
use lib.IntN.{ℤ, nat_abs}
use lib.Signed.{mag}
use mir.Syntax.{w32}
use mir.Val.{of_z, to_z}
use Rattle.machine.specs.declared.Telegram.{Telegram}
use Rattle.machine_events.proofs.Called.{data_in}
use Rattle.engine_rows.proofs.Laws.{given}

abbrev word : ℤ → ℤ
word z = to_z w32 (of_z w32 z)

-- a number in a telegram
pub number_read : (z : ℤ) → mag z < 2147483648 → (n : ℕ) → n ≡ nat_abs (word z) → n ≡ nat_abs z
number_read z l n e = e ∙ ap nat_abs (given z l)

-- the data of a telegram
module _ (t : Telegram) (a : mag t.d0 < 2147483648) (b : mag t.d1 < 2147483648) (c : mag t.d2 < 2147483648) (d : mag t.d3 < 2147483648) where
  pub data_read : word t.d0 ∷ word t.d1 ∷ word t.d2 ∷ word t.d3 ∷ [] ≡ data_in t
  data_read = rw (given t.d0 a, given t.d1 b, given t.d2 c, given t.d3 d) refl
