use native.Mathlib.Omega.{arith}
use mathlib.Core.Path.{◌≡◌, refl, sym, ap, ◌∙◌}
use mathlib.Core.Bool.{Bool, not}
use Prim.Native.Nat.{ℕ, ◌-◌}
use Rattle.sheet.specs.All.{◌and◌, all_below}
use Rattle.sheet.proofs.All.{and-true, and-false, false-and, all_more, loop_fails, loop_ends}
use Rattle.sheet.specs.Names.{is_clock}
use Rattle.sheet_rules.specs.Static.{plain_data}
use Rattle.checker_roles.proofs.plain_data.Goals as goal

is-clock : (t u : ℕ) (x : Bool) {y : Bool} → t ≡ u → x ≡ is_clock t → x ≡ y → is_clock u ≡ y
is-clock t u x p q e = sym (ap is_clock p) ∙ sym q ∙ e

pub loop-j-init : goal.loop-j-init
unfolding all_below
loop-j-init c = (omega arith, refl)

pub returns-then-is_clock : goal.returns-then-is_clock
unfolding plain_data
returns-then-is_clock c = loop_fails _ _ _ _ refl c.loop-j-test.true (false-and _ _ (ap not (is-clock _ _ _ c.type_at.ensures c.is_clock.ensures c.if-is_clock.true)))

pub returns-then-not-is_plain : goal.returns-then-not-is_plain
unfolding plain_data
returns-then-not-is_plain c = loop_fails _ _ _ _ refl c.loop-j-test.true (and-false _ _ (sym c.is_plain.ensures ∙ c.if-not-is_plain.true))

pub loop-j-preserved : goal.loop-j-preserved
loop-j-preserved c = (omega arith, all_more c.loop-j.j _ c.loop-j.invariant.1 (and-true _ _ (ap not (is-clock _ _ _ c.type_at.ensures c.is_clock.ensures c.if-is_clock.false)) (sym c.is_plain.ensures ∙ c.if-not-is_plain.false)))

pub returns : goal.returns
unfolding plain_data
returns c = loop_ends _ _ _ _ refl c.loop-j.invariant.0 c.loop-j-test.false c.loop-j.invariant.1
