use Prim.Native.Nat.{◌-◌}
use mathlib.Core.Path.{◌∙◌}
use native.Mathlib.Omega.{arith}
use Rattle.engine_rows.proofs.Laws.{given}
use Rattle.engine_defaults.proofs.Laws.{begun_none, begun_more, begun_all}
use Rattle.engine_defaults.proofs.fresh_locals.Goals as goal

pub loop-i-init : goal.loop-i-init
loop-i-init c = (omega arith, begun_none _ _ _)

pub local_at-z-requires : goal.local_at-z-requires
local_at-z-requires c = (c.requires.0, c.loop-i-test.true)

pub bounds-locals-i : goal.bounds-locals-i
bounds-locals-i c = let l = c.requires.1 in let m = c.loop-i-test.true in let n = c.loop-i.invariant.1.whole in omega arith

pub loop-i-preserved : goal.loop-i-preserved
loop-i-preserved c = let l = c.requires.1 in let m = c.loop-i-test.true in (omega arith, begun_more _ _ _ _ _ _ (omega arith) (given c.local_at-z.result c.local_at-z.type_inv ∙ c.local_at-z.ensures) c.loop-i.invariant.1)

pub returns : goal.returns
returns c = begun_all _ _ _ _ _ c.loop-i-test.false c.loop-i.invariant.1
