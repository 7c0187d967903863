use Prim.Native.Nat.{◌-◌, ◌≤◌}
use Rattle.sheet_rules.specs.Fields.{sum_below}
use Rattle.checker_pass.specs.Marks.{Marked}
use Rattle.checker_pass.proofs.Added.{operand_turn}
use Rattle.checker_operand_marks.proofs.mark_operands.Given as goal

abbrev pub invariant-loop-j : goal.invariant-loop-j
invariant-loop-j l = (l.j ≤ l.total) × Marked l.m l.k l.initial.marks l.marks (λ n. sum_below l.j (operand_turn l.r l.o n))
