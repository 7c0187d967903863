use native.Mathlib.Omega.{arith}
use mathlib.Core.Path.{refl, ◌∙◌, ap}
use Prim.Native.Nat.{◌-◌}
use Rattle.sheet.specs.All.{all_below}
use Rattle.sheet.proofs.All.{all_more, loop_fails, loop_ends}
use Rattle.sheet_types.proofs.Laws.{no, so}
use Rattle.engine_valid_waiting.proofs.Laws.{place_judged, unused_is}
use mathlib.Core.Bool.{not}
use Rattle.engine_valid_waiting.proofs.unused_zero.Goals as goal

pub loop-k-init : goal.loop-k-init
unfolding all_below
loop-k-init c = (omega arith, refl)

pub returns-then-not-zero_words : goal.returns-then-not-zero_words
returns-then-not-zero_words c s l = let judged = place_judged _ _ _ _ c.place_at-at.ensures c.zero_words.ensures in
    loop_fails _ _ _ _ refl c.loop-k-test.true (no judged (ap not c.if-not-zero_words.true)) ∙ unused_is s _ l _ c.requires.number

pub loop-k-preserved : goal.loop-k-preserved
loop-k-preserved c = let judged = place_judged _ _ _ _ c.place_at-at.ensures c.zero_words.ensures in
    (omega arith, all_more c.loop-k.k _ c.loop-k.invariant.1 (so judged (ap not c.if-not-zero_words.false)))

pub returns : goal.returns
returns c s l = loop_ends _ _ _ _ refl c.loop-k.invariant.0 c.loop-k-test.false c.loop-k.invariant.1 ∙ unused_is s _ l _ c.requires.number
