use native.Mathlib.Omega.{arith}
use mathlib.Core.Path.{refl, sym, ◌∙◌}
use Prim.Native.Nat.{◌-◌}
use Rattle.sheet.specs.All.{all_below}
use Rattle.sheet.proofs.All.{all_more, loop_fails, loop_ends}
use Rattle.machine.specs.Valid.{zero_words}
use Rattle.engine_valid_cells.proofs.Laws.{none_left}
use Rattle.engine_valid_cells.proofs.zero_words.Goals as goal

pub returns-then-from-ge8 : goal.returns-then-from-ge8
returns-then-from-ge8 c = none_left _ _ _ c.if-from-ge8.true

pub loop-k-init : goal.loop-k-init
unfolding all_below
loop-k-init c = (omega arith, refl)

pub returns-then-not-zero_at : goal.returns-then-not-zero_at
unfolding zero_words
returns-then-not-zero_at c = loop_fails _ _ _ _ refl c.loop-k-test.true (sym c.zero_at.ensures ∙ c.if-not-zero_at.true)

pub loop-k-preserved : goal.loop-k-preserved
loop-k-preserved c = (omega arith, all_more c.loop-k.k _ c.loop-k.invariant.1 (sym c.zero_at.ensures ∙ c.if-not-zero_at.false))

pub returns : goal.returns
unfolding zero_words
returns c = loop_ends _ _ _ _ refl c.loop-k.invariant.0 c.loop-k-test.false c.loop-k.invariant.1
