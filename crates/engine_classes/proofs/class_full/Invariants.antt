use Prim.Native.Nat.{◌+◌, ◌-◌}
use Rattle.engine_classes.proofs.Laws.{Looked}
use Rattle.engine_classes.proofs.class_full.Given as goal

abbrev pub invariant-loop-at : goal.invariant-loop-at
invariant-loop-at l = Looked l.st l.n l.t l.last l.at

abbrev pub decreases-loop-at : goal.decreases-loop-at
decreases-loop-at l = l.end + 8 - l.at
