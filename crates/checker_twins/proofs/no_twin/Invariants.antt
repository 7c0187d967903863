use Prim.Native.Nat.{◌+◌, ◌-◌}
use Rattle.checker_reactions.proofs.Entries.{Walked}
use Rattle.checker_twins.proofs.no_twin.Given as goal

abbrev pub invariant-loop-e : goal.invariant-loop-e
invariant-loop-e l = Walked l.sheet.sheet.now l.first (l.first + l.j) l.b l.e

abbrev pub decreases-loop-e : goal.decreases-loop-e
decreases-loop-e l = l.e
