use native.Mathlib.Omega.{arith}
use mathlib.Core.Path.{refl, sym, ◌∙◌}
use Prim.Native.Nat.{◌-◌}
use Rattle.sheet.specs.All.{all_below}
use Rattle.sheet.proofs.All.{all_more, loop_fails, loop_ends}
use Rattle.sheet_rules.proofs.Fields.{holds-present, holds_absent}
use Rattle.sheet_rules.specs.Check.{nodes_shape}
use Rattle.checker_trees.proofs.nodes_fit.Goals as goal

pub loop-k-init : goal.loop-k-init
unfolding all_below
loop-k-init c = (omega arith, refl)

pub returns-in_default : goal.returns-in_default
unfolding nodes_shape
returns-in_default c = loop_fails _ _ _ _ c.count-count.ensures c.loop-k-test.true (holds_absent _ _ (sym c.record.ensures ∙ c.in_default.is))

pub returns-then-not-trees_fit : goal.returns-then-not-trees_fit
unfolding nodes_shape
returns-then-not-trees_fit c = let c-here-is = sym c.record.ensures ∙ c.in-Some.is in
    loop_fails _ _ _ _ c.count-count.ensures c.loop-k-test.true
    (holds-present _ _ _ c-here-is ∙ sym c.trees_fit.ensures ∙ c.if-not-trees_fit.true)

pub loop-k-preserved : goal.loop-k-preserved
loop-k-preserved c = (omega arith, all_more c.loop-k.k _ c.loop-k.invariant.1 (holds-present _ _ _ (sym c.record.ensures ∙ c.in-Some.is) ∙ sym c.trees_fit.ensures ∙ c.if-not-trees_fit.false))

pub returns : goal.returns
unfolding nodes_shape
returns c = loop_ends _ _ _ _ c.count-count.ensures c.loop-k.invariant.0 c.loop-k-test.false c.loop-k.invariant.1
