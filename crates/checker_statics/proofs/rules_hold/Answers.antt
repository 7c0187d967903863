use native.Mathlib.Omega.{arith}
use mathlib.Core.Path.{refl, sym, ◌∙◌}
use Prim.Native.Nat.{◌-◌}
use Rattle.sheet.specs.All.{all_below}
use Rattle.sheet.proofs.All.{all_more, loop_fails, loop_ends}
use Rattle.sheet_rules.specs.Static.{static}
use Rattle.checker_reactions.proofs.Entries.{ready-zeros}
use Rattle.checker_statics.proofs.rules_hold.Goals as goal

pub loop-k-init : goal.loop-k-init
unfolding all_below
loop-k-init c = (omega arith, refl, ready-zeros _)

pub section_static-requires : goal.section_static-requires
section_static-requires c = c.loop-k.invariant.2

pub returns-then-not-section_static : goal.returns-then-not-section_static
unfolding static
returns-then-not-section_static c = loop_fails _ _ _ _ refl c.loop-k-test.true (sym c.section_static.ensures.0 ∙ c.if-not-section_static.true)

pub loop-k-preserved : goal.loop-k-preserved
loop-k-preserved c = (omega arith, all_more c.loop-k.k _ c.loop-k.invariant.1 (sym c.section_static.ensures.0 ∙ c.if-not-section_static.false), c.section_static.ensures.1)

pub returns : goal.returns
unfolding static
returns c = loop_ends _ _ _ _ refl c.loop-k.invariant.0 c.loop-k-test.false c.loop-k.invariant.1
