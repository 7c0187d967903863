use Prim.Native.Nat.{ℕ}
use mathlib.Core.Path.{◌≡◌, refl}
use native.Mathlib.Omega.{arith}
use borrow.Author.Tests.{eq-eqb, ne_eqb}
use Rattle.sheet_rules.specs.Types.{clock_of}
use Rattle.checker_sends.proofs.clock_of.Goals as goal

module _ (op : ℕ) where
  clock-36 : op ≡ 36 → 5 ≡ clock_of op
  unfolding clock_of
  clock-36 e = rw (clock_of, e) refl

  clock-37 : op ≡ 37 → 6 ≡ clock_of op
  unfolding clock_of
  clock-37 e = rw (clock_of, ne_eqb op 36 (λ z. omega arith), eq-eqb _ 37 e) refl

  clock-rest : (op ≡ 36 → ⊥) → (op ≡ 37 → ⊥) → 4 ≡ clock_of op
  unfolding clock_of
  clock-rest a b = rw (clock_of, ne_eqb _ _ a, ne_eqb _ _ b) refl

pub returns-in-36 : goal.returns-in-36
returns-in-36 c = clock-36 _ c.in-36.is

pub returns-in-37 : goal.returns-in-37
returns-in-37 c = clock-37 _ c.in-37.is

pub returns-in_default : goal.returns-in_default
returns-in_default c = clock-rest _ c.in_default.in_default-own.rest.0.1 c.in_default.in_default-own.rest.1
