use native.Mathlib.Omega.{arith}
use mathlib.Core.Path.{refl, ap}
use Prim.Native.Nat.{◌-◌}
use Rattle.sheet.specs.All.{all_below}
use Rattle.sheet.proofs.All.{all_more, loop_fails, loop_ends}
use Rattle.machine.specs.Play.{rest_zero}
use Rattle.sheet_types.proofs.Laws.{no, so}
use mathlib.Core.Bool.{not}
use Rattle.engine_valid_kinds.proofs.rest_zero.Goals as goal

pub loop-k-init : goal.loop-k-init
unfolding all_below
loop-k-init c = (omega arith, refl)

pub returns-then-not-zero_at : goal.returns-then-not-zero_at
unfolding rest_zero
returns-then-not-zero_at c = loop_fails _ _ _ _ refl c.loop-k-test.true (no c.zero_at.ensures (ap not c.if-not-zero_at.true))

pub loop-k-preserved : goal.loop-k-preserved
loop-k-preserved c = (omega arith, all_more c.loop-k.k _ c.loop-k.invariant.1 (so c.zero_at.ensures (ap not c.if-not-zero_at.false)))

pub returns : goal.returns
unfolding rest_zero
returns c = loop_ends _ _ _ _ refl c.loop-k.invariant.0 c.loop-k-test.false c.loop-k.invariant.1
