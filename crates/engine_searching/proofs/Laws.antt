-- What looking for the oldest telegram comes to.
use Prim.Native.Nat.{ℕ, suc, ◌+◌, ◌-◌, ◌<◌, ◌≤◌}
use mathlib.Core.Path.{◌≡◌, refl, ◌∙◌}
use mathlib.Core.List.{List}
use mathlib.Core.Bool.{Bool, true, false}
use native.Mathlib.Omega.{arith}
use lib.IntN.{ℤ}
use Rattle.machine.specs.declared.Telegram.{Telegram}
use Rattle.machine.specs.State.{waiting, telegram_of}
use Rattle.machine.specs.Play.{oldest_from, oldest}

module _ (s : List ℕ) (st : List ℤ) (p : Telegram → Bool) where
  pub oldest-start : (n : ℕ) → n ≡ waiting st → oldest s st p ≡ oldest_from s st p (n - 0) 0
  unfolding oldest
  oldest-start n e = let q : n - 0 ≡ waiting st = omega arith in rw q refl

  step : (n m j : ℕ) → m ≡ suc n → p (telegram_of s st j) ≡ false → oldest_from s st p m j ≡ oldest_from s st p n (suc j)
  unfolding oldest_from
  step n m j e f = rw (e, oldest_from, f) refl

  pub oldest_next : (n j : ℕ) → j < n → p (telegram_of s st j) ≡ false → oldest_from s st p (n - j) j ≡ oldest_from s st p (n - (j + 1)) (j + 1)
  oldest_next n j l f = let e : n - j ≡ suc (n - (j + 1)) = omega arith in let q : suc j ≡ j + 1 = omega arith in rw q at (step (n - (j + 1)) (n - j) j e f)

  hit : (n m j : ℕ) → m ≡ suc n → p (telegram_of s st j) ≡ true → j ≡ oldest_from s st p m j
  unfolding oldest_from
  hit n m j e f = rw (e, oldest_from, f) refl

  pub oldest_here : (n j : ℕ) → j < n → p (telegram_of s st j) ≡ true → j ≡ oldest_from s st p (n - j) j
  oldest_here n j l f = let e : n - j ≡ suc (n - (j + 1)) = omega arith in hit (n - (j + 1)) (n - j) j e f

  oldest-none : (n j : ℕ) → n ≤ j → j ≡ oldest_from s st p (n - j) j
  unfolding oldest_from
  oldest-none n j m = let e : n - j ≡ 0 = omega arith in rw e refl

  pub oldest-end : (n j : ℕ) → n ≤ j → j ≤ n → n ≡ oldest_from s st p (n - j) j
  oldest-end n j m w = let e : n ≡ j = omega arith in e ∙ oldest-none n j m
