use native.Mathlib.Omega.{arith}
use Prim.Native.Nat.{ℕ}
use mathlib.Core.Path.{◌≡◌, sym, ◌∙◌}
use mathlib.Core.List.{List}
use Rattle.sheet_rules.specs.Fields.{field_of, field_at}
use Rattle.machine.specs.Play.{default_limit, limit_of}
use Rattle.machine.proofs.Limit.{limit_zero, limit_given}
use Rattle.engine_limit.proofs.limit.Goals as goal

field-zero : (s : List ℕ) (x : ℕ) → x ≡ field_at s 0 0 3 → x ≡ 0 → default_limit ≡ limit_of s
unfolding field_at field_of
field-zero s x e z = sym (limit_zero default_limit s (sym e ∙ z))

field-given : (s : List ℕ) (x : ℕ) → x ≡ field_at s 0 0 3 → (x ≡ 0 → ⊥) → x ≡ limit_of s
unfolding field_at field_of
field-given s x e z = e ∙ sym (limit_given default_limit s (λ q. z (e ∙ q)))

pub returns-then-steps-eq0 : goal.returns-then-steps-eq0
returns-then-steps-eq0 c = (field-zero _ _ c.field_at-steps.ensures.0 c.if-steps-eq0.true, omega arith)

pub returns : goal.returns
returns c = (field-given _ _ c.field_at-steps.ensures.0 c.if-steps-eq0.false, c.field_at-steps.ensures.1)
