use native.Mathlib.Omega.{arith}
use Prim.Native.Nat.{◌-◌}
use Rattle.checker_reactions.proofs.Entries.{filled_none, filled_more, filled_table, entered-entries}
use Rattle.checker_reactions.proofs.fill.Goals as goal

pub loop-j-init : goal.loop-j-init
loop-j-init c = (omega arith, c.requires.entries, filled_none _ _ _)

pub enter-requires : goal.enter-requires
enter-requires c = record { table_len = c.loop-j.invariant.1.size }

pub loop-j-preserved : goal.loop-j-preserved
loop-j-preserved c = (omega arith, entered-entries _ _ _ _ _ c.loop-j.invariant.1 c.enter.ensures, filled_more _ _ _ _ _ c.loop-j.invariant.2 c.enter.ensures)

pub returns : goal.returns
returns c = (c.loop-j.invariant.1, filled_table _ _ _ _ c.loop-j.invariant.0 c.loop-j-test.false c.loop-j.invariant.1 c.loop-j.invariant.2)
