use Prim.Native.Nat.{◌-◌, ◌≤◌}
use mathlib.Core.Path.{◌≡◌}
use Rattle.sheet_rules.specs.Fields.{sum_below}
use Rattle.checker_pass.specs.Marks.{Marked}
use Rattle.checker_pass.proofs.Added.{root_turn, body_turn}
use Rattle.checker_marks.proofs.mark_chart.Given as goal

abbrev pub invariant-loop-j : goal.invariant-loop-j
invariant-loop-j l = (l.j ≤ l.total) × (l.gone ≤ l.j) × (l.gone ≡ sum_below l.j (body_turn l.sheet.sheet.now l.first)) × Marked l.count l.k l.initial.marks l.marks (λ n. sum_below l.j (root_turn l.sheet.sheet.now l.first n))
