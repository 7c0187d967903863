use mathlib.Core.Path.{◌≡◌}
use mathlib.Core.Bool.{Bool, true}
use mathlib.Core.List.{List}
use Prim.Native.Nat.{ℕ, ◌+◌, ◌-◌, ◌≤◌, ◌<◌}
use Rattle.sheet.specs.All.{all_below}
use Rattle.sheet.specs.declared.Record.{Record}
use Rattle.sheet.specs.Sheet.{record_of}
use Rattle.sheet_rules.specs.Fields.{holds}
use Rattle.sheet_rules.specs.Shape.{tree_shape}
use Rattle.checker_trees.proofs.trees_fit.Given as goal

abbrev pub bodyFits : List ℕ → Record → ℕ → Bool
bodyFits s c j = holds (record_of s 5 (c.f4 + j)) (λ b. tree_shape s c b 64 b.f7)

abbrev pub invariant-loop-j : goal.invariant-loop-j
invariant-loop-j l = (l.j ≤ l.count) × (l.count < 65536) × (all_below l.j (bodyFits l.sheet.sheet.now l.c) ≡ true)
