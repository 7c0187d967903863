use Prim.Native.Nat.{◌-◌, ◌≤◌}
use Rattle.sheet_rules.specs.Fields.{sum_below}
use Rattle.checker_pass.specs.Marks.{Marked}
use Rattle.checker_pass.proofs.Added.{constant_turn}
use Rattle.checker_constant_marks.proofs.mark_constants.Given as goal

abbrev pub invariant-loop-j : goal.invariant-loop-j
invariant-loop-j l = (l.j ≤ l.n) × Marked l.count 0 l.initial.marks l.marks (λ m. sum_below l.j (constant_turn l.b m))
