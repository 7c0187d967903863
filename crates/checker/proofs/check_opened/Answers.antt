use mathlib.Core.Path.{◌≡◌, refl, sym, ◌∙◌}
use mathlib.Core.Bool.{true, false}
use mathlib.Core.List.{List}
use Prim.Native.Nat.{ℕ, ◌-◌}
use Rattle.sheet_rules.specs.declared.Checked.TheVariants.{Passed, Shape, Static}
use Rattle.sheet_rules.specs.Static.{static}
use Rattle.sheet_rules.specs.Check.{shape, check_of, check_call}
use Rattle.checker.proofs.check_opened.Goals as goal

module _ (s : List ℕ) where
  no-shape : shape s ≡ false → (Shape ≡ check_of s) × (1 ≡ check_call s)
  unfolding check_of check_call
  no-shape e = (rw (check_of, e) refl, rw (check_call, e) refl)

  no_static : shape s ≡ true → static s ≡ false → (Static ≡ check_of s) × (2 ≡ check_call s)
  unfolding check_of check_call
  no_static e f = (rw (check_of, e, f) refl, rw (check_call, e, f) refl)

  passes : shape s ≡ true → static s ≡ true → (Passed ≡ check_of s) × (0 ≡ check_call s)
  unfolding check_of check_call
  passes e f = (rw (check_of, e, f) refl, rw (check_call, e, f) refl)

pub returns-then-not-shaped : goal.returns-then-not-shaped
returns-then-not-shaped c = no-shape _ (sym c.shaped.ensures ∙ c.if-not-shaped.true)

pub returns-then-not-rules_hold : goal.returns-then-not-rules_hold
returns-then-not-rules_hold c = no_static _ (sym c.shaped.ensures ∙ c.if-not-shaped.false) (sym c.rules_hold.ensures ∙ c.if-not-rules_hold.true)

pub returns : goal.returns
returns c = passes _ (sym c.shaped.ensures ∙ c.if-not-shaped.false) (sym c.rules_hold.ensures ∙ c.if-not-rules_hold.false)
