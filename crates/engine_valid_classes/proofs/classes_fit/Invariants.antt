use Prim.Native.Nat.{◌-◌, ◌≤◌}
use Rattle.engine_valid_classes.proofs.Laws.{Counted}
use Rattle.engine_valid_classes.proofs.classes_fit.Given as goal

abbrev pub invariant-loop-j : goal.invariant-loop-j
invariant-loop-j l = (l.j ≤ l.n) × Counted l.st l.j l.counts
