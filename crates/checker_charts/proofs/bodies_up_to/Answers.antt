use native.Mathlib.Omega.{arith}
use mathlib.Core.Path.{◌≡◌, refl, sym, ◌∙◌}
use mathlib.Core.List.{List}
use Prim.Native.Nat.{ℕ, zero, suc, ◌+◌, ◌-◌}
use Rattle.sheet.specs.Sheet.{record_of}
use Rattle.sheet_rules.specs.Fields.{number_or0}
use Rattle.sheet_rules.proofs.Fields.{number-present, number_absent}
use Rattle.sheet_rules.specs.Shape.{bodies_up_to}
use Rattle.checker_charts.proofs.bodies_up_to.Goals as goal

first-chart : (s : List ℕ) (k : ℕ) → k ≡ 0 → 0 ≡ bodies_up_to s k
unfolding bodies_up_to
first-chart s k e = rw e refl

later-chart : (s : List ℕ) (k : ℕ) → (k ≡ 0 → ⊥) → bodies_up_to s k ≡ number_or0 (record_of s 4 (k - 1)) (λ c. c.f4 + c.f5)
unfolding bodies_up_to
later-chart s zero h = absurd (h refl)
later-chart s (suc k) h = let e : suc k - 1 ≡ k = omega arith in rw e refl

pub returns-then-k-eq0 : goal.returns-then-k-eq0
returns-then-k-eq0 c = first-chart _ _ c.if-k-eq0.true

pub returns-in_default : goal.returns-in_default
returns-in_default c = sym (later-chart _ _ c.if-k-eq0.false ∙ number_absent _ _ (sym c.record.ensures ∙ c.in_default.is))

pub returns : goal.returns
returns c = sym (later-chart _ _ c.if-k-eq0.false ∙ number-present _ _ _ (sym c.record.ensures ∙ c.in-Some.is))
