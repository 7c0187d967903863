use native.Mathlib.Omega.{arith}
use mathlib.Core.Path.{refl, sym, ◌∙◌}
use Prim.Native.Nat.{◌-◌}
use Rattle.sheet.specs.All.{all_below}
use Rattle.sheet.proofs.All.{all_more, loop_fails, loop_ends}
use Rattle.sheet_rules.proofs.Fields.{holds-present, holds_absent}
use Rattle.sheet_rules.specs.Static.{each_static}
use Rattle.checker_statics.proofs.records_static.Goals as goal

pub loop-i-init : goal.loop-i-init
unfolding all_below
loop-i-init c = (omega arith, refl, c.requires)

pub returns-in_default : goal.returns-in_default
unfolding each_static
returns-in_default c = (loop_fails _ _ _ _ c.count-count.ensures c.loop-i-test.true (holds_absent _ _ (sym c.record.ensures ∙ c.in_default.is)), c.loop-i.invariant.2)

pub record_static-requires : goal.record_static-requires
record_static-requires c = c.loop-i.invariant.2

pub returns-then-not-record_static : goal.returns-then-not-record_static
unfolding each_static
returns-then-not-record_static c = let r-is = sym c.record.ensures ∙ c.in-Some.is in (
  loop_fails _ _ _ _ c.count-count.ensures c.loop-i-test.true
      (holds-present _ _ _ r-is ∙ sym c.record_static.ensures.0 ∙ c.if-not-record_static.true),
  c.record_static.ensures.1,
)

pub loop-i-preserved : goal.loop-i-preserved
loop-i-preserved c = let r-is = sym c.record.ensures ∙ c.in-Some.is in (
  omega arith,
  all_more c.loop-i.i _ c.loop-i.invariant.1 (holds-present _ _ _ r-is ∙ sym c.record_static.ensures.0 ∙ c.if-not-record_static.false),
  c.record_static.ensures.1,
)

pub returns : goal.returns
unfolding each_static
returns c = (loop_ends _ _ _ _ c.count-count.ensures c.loop-i.invariant.0 c.loop-i-test.false c.loop-i.invariant.1, c.loop-i.invariant.2)
