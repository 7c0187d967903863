use native.Mathlib.Omega.{arith}
use mathlib.Core.Path.{refl, sym, ◌∙◌}
use Prim.Native.Nat.{◌-◌}
use Rattle.sheet.specs.All.{all_below}
use Rattle.sheet.proofs.All.{all_more, loop_fails, loop_ends}
use Rattle.sheet_rules.proofs.Fields.{holds-present, holds_absent}
use Rattle.sheet_rules.specs.Shape.{trees_shape}
use Rattle.checker_trees.proofs.trees_fit.Goals as goal

pub loop-j-init : goal.loop-j-init
unfolding all_below
loop-j-init c = (omega arith, omega arith, refl)

pub returns-in_default : goal.returns-in_default
unfolding trees_shape
returns-in_default c = loop_fails _ _ _ _ refl c.loop-j-test.true (holds_absent _ _ (sym c.record.ensures ∙ c.in_default.is))

pub returns-then-not-tree_fits : goal.returns-then-not-tree_fits
unfolding trees_shape
returns-then-not-tree_fits c = loop_fails _ _ _ _ refl c.loop-j-test.true (holds-present _ _ _ (sym c.record.ensures ∙ c.in-Some.is) ∙ sym c.tree_fits.ensures ∙ c.if-not-tree_fits.true)

pub loop-j-preserved : goal.loop-j-preserved
loop-j-preserved c = (omega arith, c.loop-j.invariant.1, all_more c.loop-j.j _ c.loop-j.invariant.2 (holds-present _ _ _ (sym c.record.ensures ∙ c.in-Some.is) ∙ sym c.tree_fits.ensures ∙ c.if-not-tree_fits.false))

pub returns : goal.returns
unfolding trees_shape
returns c = loop_ends _ _ _ _ refl c.loop-j.invariant.0 c.loop-j-test.false c.loop-j.invariant.2
