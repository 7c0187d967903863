-- Which first words are of which kind of event.
use Prim.Native.Nat.{ℕ, zero, suc, ◌≤◌}
use mathlib.Core.Path.{◌≡◌, refl}
use native.Mathlib.Omega.{arith}
use lib.IntN.{ℤ, pos, negsuc}
use Rattle.sheet.specs.Table.{look_up}
use Rattle.sheet.proofs.Table.{lines_past}
use Rattle.machine.specs.Kinds.{no_kind, kind_table, kind_of}

-- numbers from 6 on
no_more : (n : ℕ) → 6 ≤ n → kind_of (pos n) ≡ no_kind
unfolding kind_of look_up
no_more n h = lines_past no_kind 6 kind_table 6 n tt h

pub no_kind_lem : (z : ℤ) → (z ≡ pos 1 → ⊥) → (z ≡ pos 2 → ⊥) → (z ≡ pos 3 → ⊥) → (z ≡ pos 4 → ⊥) → (z ≡ pos 5 → ⊥) → kind_of z ≡ no_kind
unfolding kind_of look_up
no_kind_lem (pos zero) a b c d e = refl
no_kind_lem (pos (suc zero)) a b c d e = absurd (a refl)
no_kind_lem (pos (suc (suc zero))) a b c d e = absurd (b refl)
no_kind_lem (pos (suc (suc (suc zero)))) a b c d e = absurd (c refl)
no_kind_lem (pos (suc (suc (suc (suc zero))))) a b c d e = absurd (d refl)
no_kind_lem (pos (suc (suc (suc (suc (suc zero)))))) a b c d e = absurd (e refl)
no_kind_lem (pos (suc (suc (suc (suc (suc (suc n))))))) a b c d e = no_more (suc (suc (suc (suc (suc (suc n)))))) (omega arith)
no_kind_lem (negsuc n) a b c d e = refl
