use native.Mathlib.Omega.{arith}
use mathlib.Core.Path.{refl, sym, ◌∙◌}
use Prim.Native.Nat.{◌-◌}
use Rattle.sheet.specs.All.{all_below}
use Rattle.sheet.proofs.All.{all_more, loop_fails, loop_ends}
use Rattle.sheet_rules.specs.Check.{sections_shape}
use Rattle.checker_shape.proofs.sections_fit.Goals as goal

pub loop-k-init : goal.loop-k-init
unfolding all_below
loop-k-init c = (omega arith, refl)

pub returns-then-not-section_fits : goal.returns-then-not-section_fits
unfolding sections_shape
returns-then-not-section_fits c = loop_fails _ _ _ _ refl c.loop-k-test.true (sym c.section_fits.ensures ∙ c.if-not-section_fits.true)

pub loop-k-preserved : goal.loop-k-preserved
loop-k-preserved c = (omega arith, all_more c.loop-k.k _ c.loop-k.invariant.1 (sym c.section_fits.ensures ∙ c.if-not-section_fits.false))

pub returns : goal.returns
unfolding sections_shape
returns c = loop_ends _ _ _ _ refl c.loop-k.invariant.0 c.loop-k-test.false c.loop-k.invariant.1
