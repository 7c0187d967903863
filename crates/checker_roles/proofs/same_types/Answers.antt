use native.Mathlib.Omega.{arith}
use mathlib.Core.Path.{refl, sym, ◌∙◌}
use Prim.Native.Nat.{◌-◌}
use borrow.Author.Tests.{eq-eqb, ne_eqb}
use Rattle.sheet.specs.All.{all_below}
use Rattle.sheet.proofs.All.{first_fails_lem, rest_fails, first_holds, all_more, loop_fails, loop_ends}
use Rattle.sheet_rules.specs.Static.{same_types}
use Rattle.checker_roles.proofs.same_types.Goals as goal

pub returns-then-count-h : goal.returns-then-count-h
unfolding same_types
returns-then-count-h c = first_fails_lem _ _ (ne_eqb _ _ c.if-count-h.true)

pub loop-j-init : goal.loop-j-init
unfolding all_below
loop-j-init c = (omega arith, refl)

pub returns-then-type_at : goal.returns-then-type_at
unfolding same_types
returns-then-type_at c = rest_fails _ _ (loop_fails _ _ _ _ refl c.loop-j-test.true (ne_eqb _ _ (λ e. c.if-type_at.true (c.type_at.ensures ∙ e ∙ sym c.type_at-in-loop-j.ensures))))

pub loop-j-preserved : goal.loop-j-preserved
loop-j-preserved c = (omega arith, all_more c.loop-j.j _ c.loop-j.invariant.1 (eq-eqb _ _ (sym c.type_at.ensures ∙ c.if-type_at.false ∙ c.type_at-in-loop-j.ensures)))

pub returns : goal.returns
unfolding same_types
returns c = first_holds _ _ _ (eq-eqb _ _ c.if-count-h.false) (loop_ends _ _ _ _ refl c.loop-j.invariant.0 c.loop-j-test.false c.loop-j.invariant.1)
