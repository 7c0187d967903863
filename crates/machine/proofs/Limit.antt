-- The limit that a sheet comes to.
use Prim.Native.Nat.{ℕ}
use mathlib.Core.Path.{◌≡◌, refl}
use mathlib.Core.List.{List}
use borrow.Author.Tests.{eq-eqb, ne_eqb}
use Rattle.machine.specs.Play.{written_limit, limit_by}

module _ (d : ℕ) (s : List ℕ) where
  pub limit_zero : written_limit s ≡ 0 → limit_by d s ≡ d
  unfolding limit_by
  limit_zero z = rw (limit_by, eq-eqb (written_limit s) 0 z) refl

  pub limit_given : (written_limit s ≡ 0 → ⊥) → limit_by d s ≡ written_limit s
  unfolding limit_by
  limit_given n = rw (limit_by, ne_eqb (written_limit s) 0 n) refl
