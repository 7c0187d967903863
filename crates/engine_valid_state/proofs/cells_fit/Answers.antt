use native.Mathlib.Omega.{arith}
use mathlib.Core.Path.{refl, sym, ◌∙◌, ap}
use Prim.Native.Nat.{◌-◌}
use Rattle.sheet.specs.All.{all_below}
use Rattle.sheet.proofs.All.{all_more, loop_fails, loop_ends}
use Rattle.sheet_types.proofs.Laws.{no, so}
use Rattle.engine_valid_state.proofs.Laws.{element_in_lem, cells_are, no_element}
use mathlib.Core.Bool.{not}
use Rattle.engine_valid_state.proofs.cells_fit.Goals as goal

pub loop-i-init : goal.loop-i-init
unfolding all_below
loop-i-init c = (omega arith, c.elements-count.ensures.1, c.externals-from.ensures.1, refl)

pub chart-requires : goal.chart-requires
chart-requires c = element_in_lem _ _ _ _ c.externals-from.ensures.0 c.elements-count.ensures.0 c.loop-i-test.true

pub returns-in_default : goal.returns-in_default
returns-in_default c = let absent = no_element _ _ _ (sym c.chart.ensures ∙ c.in_default.is) in
    loop_fails _ _ _ _ c.elements-count.ensures.0 c.loop-i-test.true absent ∙ cells_are _ _ _ c.externals-from.ensures.0

pub element_fits-requires : goal.element_fits-requires
element_fits-requires c = (c.requires, sym c.chart.ensures ∙ c.in-Some.is)

pub returns-then-not-element_fits : goal.returns-then-not-element_fits
returns-then-not-element_fits c = loop_fails _ _ _ _ c.elements-count.ensures.0 c.loop-i-test.true (no c.element_fits.ensures (ap not c.if-not-element_fits.true)) ∙ cells_are _ _ _ c.externals-from.ensures.0

pub loop-i-preserved : goal.loop-i-preserved
loop-i-preserved c = let inv = c.loop-i.invariant in
    (omega arith, inv.1, inv.2, all_more c.loop-i.i _ inv.3 (so c.element_fits.ensures (ap not c.if-not-element_fits.false)))

pub returns : goal.returns
returns c = let inv = c.loop-i.invariant in
    loop_ends _ _ _ _ c.elements-count.ensures.0 inv.0 c.loop-i-test.false inv.3 ∙ cells_are _ _ _ c.externals-from.ensures.0
