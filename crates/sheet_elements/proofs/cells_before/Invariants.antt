use mathlib.Core.Path.{◌≡◌}
use mathlib.Core.List.{List}
use Prim.Native.Nat.{ℕ, ◌+◌, ◌-◌, ◌*◌, ◌≤◌, ◌<◌}
use Rattle.sheet_rules.specs.Fields.{sum_below}
use Rattle.sheet_rules.specs.Indices.{cells_taken}
use Rattle.sheet_elements.proofs.cells_before.Given as goal

abbrev pub cells_from : List ℕ → ℕ → ℕ → ℕ
cells_from s first j = cells_taken s (first + j)

abbrev pub invariant-loop-j : goal.invariant-loop-j
invariant-loop-j l = (l.j ≤ l.count) × (l.count < 65536) × (l.first < 65536) × (l.sum ≤ 65535 * l.j) × (l.sum ≡ sum_below l.j (cells_from l.sheet.sheet.now l.first))
