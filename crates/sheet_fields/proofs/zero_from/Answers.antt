use native.Mathlib.Omega.{arith}
use Prim.Native.Nat.{ℕ, ◌+◌, ◌-◌, ◌<◌}
use mathlib.Core.Path.{◌≡◌, refl, sym, ◌∙◌}
use mathlib.Core.Bool.{true, false}
use borrow.Author.Tests.{eq-eqb, ne_eqb}
use Rattle.sheet.specs.declared.Record.{Record}
use Rattle.sheet.specs.All.{all_below}
use Rattle.sheet.proofs.All.{all_more, all_fails_lem}
use Rattle.sheet_rules.specs.Fields.{field_of, zero_from}
use Rattle.sheet_fields.proofs.zero_from.Invariants.{is_zero}
use Rattle.sheet_fields.proofs.zero_from.Goals as goal

all-zero : (r : Record) (n k : ℕ) → 8 - n ≡ k → all_below k (is_zero r n) ≡ true → true ≡ zero_from n r
unfolding zero_from
all-zero r n k e h = sym (rw (e) h)

one-not : (r : Record) (n i x : ℕ) → i < 8 - n → x ≡ field_of r (n + i) → (x ≡ 0 → ⊥) → false ≡ zero_from n r
unfolding zero_from
one-not r n i x l e h = sym (all_fails_lem (8 - n) (is_zero r n) i l (ne_eqb _ _ (λ z. h (e ∙ z))))

pub returns-then-n-ge8 : goal.returns-then-n-ge8
unfolding all_below
returns-then-n-ge8 c = all-zero _ _ 0 (omega arith) refl

pub loop-i-init : goal.loop-i-init
unfolding all_below
loop-i-init c = (omega arith, omega arith, refl)

pub returns-then-field-ne0 : goal.returns-then-field-ne0
returns-then-field-ne0 c = one-not _ _ _ _ c.loop-i-test.true c.field.ensures.0 c.if-field-ne0.true

pub loop-i-preserved : goal.loop-i-preserved
loop-i-preserved c = (omega arith, omega arith, all_more c.loop-i.i _ c.loop-i.invariant.2 (eq-eqb _ _ (sym c.field.ensures.0 ∙ c.if-field-ne0.false)))

pub returns : goal.returns
returns c = all-zero _ _ _ (omega arith) c.loop-i.invariant.2
