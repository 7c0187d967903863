use mathlib.Core.Path.{◌≡◌}
use mathlib.Core.Bool.{Bool, true}
use mathlib.Core.List.{List}
use Prim.Native.Nat.{ℕ, ◌-◌, ◌≤◌}
use Rattle.sheet.specs.All.{all_below}
use Rattle.sheet.specs.Sheet.{record_of}
use Rattle.sheet_rules.specs.Fields.{holds}
use Rattle.sheet_rules.specs.Shape.{trees_shape}
use Rattle.checker_trees.proofs.nodes_fit.Given as goal

abbrev pub chartFits : List ℕ → ℕ → Bool
chartFits s k = holds (record_of s 4 k) (trees_shape s)

abbrev pub invariant-loop-k : goal.invariant-loop-k
invariant-loop-k l = (l.k ≤ l.count) × (all_below l.k (chartFits l.sheet.sheet.now) ≡ true)
