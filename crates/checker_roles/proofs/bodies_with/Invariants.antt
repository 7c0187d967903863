use mathlib.Core.Path.{◌≡◌}
use mathlib.Core.List.{List}
use Prim.Native.Nat.{ℕ, ◌+◌, ◌-◌, ◌≤◌, ◌<◌}
use Rattle.sheet_rules.specs.Fields.{one_if, sum_below}
use Rattle.sheet_rules.specs.Static.{has_role}
use Rattle.checker_roles.proofs.bodies_with.Given as goal

abbrev pub counts : List ℕ → ℕ → ℕ → ℕ → ℕ
counts s first k j = one_if (has_role s (first + j) k)

abbrev pub invariant-loop-j : goal.invariant-loop-j
invariant-loop-j l = (l.j ≤ l.count) × (l.count < 65536) × (l.n ≤ l.j) × (l.n ≡ sum_below l.j (counts l.sheet.sheet.now l.first l.role))
