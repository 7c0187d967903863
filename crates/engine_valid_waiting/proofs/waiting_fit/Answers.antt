use native.Mathlib.Omega.{arith}
use mathlib.Core.Path.{refl, ◌∙◌, ap}
use Prim.Native.Nat.{◌-◌}
use Rattle.sheet.specs.All.{all_below}
use Rattle.sheet.proofs.All.{all_more, loop_fails, loop_ends}
use Rattle.sheet_types.proofs.Laws.{no, so}
use Rattle.engine_valid_waiting.proofs.Laws.{telegram_judged, waiting_is}
use mathlib.Core.Bool.{not}
use Rattle.engine_valid_waiting.proofs.waiting_fit.Goals as goal

pub loop-j-init : goal.loop-j-init
unfolding all_below
loop-j-init c = (omega arith, refl)

pub telegram_fits-requires : goal.telegram_fits-requires
telegram_fits-requires c = let waits = c.requires.1 in
    let l = c.loop-j-test.true in
    let e = c.place_at-at.ensures in
    omega arith

pub returns-then-not-telegram_fits : goal.returns-then-not-telegram_fits
returns-then-not-telegram_fits c = let judged = telegram_judged _ _ _ _ _ c.place_at-at.ensures c.telegram_fits.ensures in
    loop_fails _ _ _ _ refl c.loop-j-test.true (no judged (ap not c.if-not-telegram_fits.true)) ∙ waiting_is _ _ c.requires.0 _ c.requires.1.number

pub loop-j-preserved : goal.loop-j-preserved
loop-j-preserved c = let judged = telegram_judged _ _ _ _ _ c.place_at-at.ensures c.telegram_fits.ensures in
    (omega arith, all_more c.loop-j.j _ c.loop-j.invariant.1 (so judged (ap not c.if-not-telegram_fits.false)))

pub returns : goal.returns
returns c = loop_ends _ _ _ _ refl c.loop-j.invariant.0 c.loop-j-test.false c.loop-j.invariant.1 ∙ waiting_is _ _ c.requires.0 _ c.requires.1.number
