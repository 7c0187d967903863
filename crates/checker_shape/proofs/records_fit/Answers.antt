use native.Mathlib.Omega.{arith}
use mathlib.Core.Path.{refl, sym, ◌∙◌}
use Prim.Native.Nat.{◌-◌}
use Rattle.sheet.specs.All.{all_below}
use Rattle.sheet.proofs.All.{all_more, loop_fails, loop_ends}
use Rattle.sheet_rules.proofs.Fields.{holds-present, holds_absent}
use Rattle.sheet_rules.specs.Shape.{each_shape}
use Rattle.checker_shape.proofs.records_fit.Goals as goal

pub loop-i-init : goal.loop-i-init
unfolding all_below
loop-i-init c = (omega arith, refl)

pub returns-in_default : goal.returns-in_default
unfolding each_shape
returns-in_default c = loop_fails _ _ _ _ c.count-count.ensures c.loop-i-test.true (holds_absent _ _ (sym c.record.ensures ∙ c.in_default.is))

pub returns-then-not-record_fits : goal.returns-then-not-record_fits
unfolding each_shape
returns-then-not-record_fits c = let r-is = sym c.record.ensures ∙ c.in-Some.is in
    loop_fails _ _ _ _ c.count-count.ensures c.loop-i-test.true
    (holds-present _ _ _ r-is ∙ sym c.record_fits.ensures ∙ c.if-not-record_fits.true)

pub loop-i-preserved : goal.loop-i-preserved
loop-i-preserved c = (omega arith, all_more c.loop-i.i _ c.loop-i.invariant.1 (holds-present _ _ _ (sym c.record.ensures ∙ c.in-Some.is) ∙ sym c.record_fits.ensures ∙ c.if-not-record_fits.false))

pub returns : goal.returns
unfolding each_shape
returns c = loop_ends _ _ _ _ c.count-count.ensures c.loop-i.invariant.0 c.loop-i-test.false c.loop-i.invariant.1
