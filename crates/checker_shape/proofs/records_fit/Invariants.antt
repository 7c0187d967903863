use mathlib.Core.Path.{◌≡◌}
use mathlib.Core.Bool.{Bool, true}
use mathlib.Core.List.{List}
use Prim.Native.Nat.{ℕ, ◌-◌, ◌≤◌}
use Rattle.sheet.specs.All.{all_below}
use Rattle.sheet.specs.Sheet.{record_of}
use Rattle.sheet_rules.specs.Fields.{holds}
use Rattle.sheet_rules.specs.Shape.{record_shape}
use Rattle.checker_shape.proofs.records_fit.Given as goal

abbrev pub fits : List ℕ → ℕ → ℕ → Bool
fits s k i = holds (record_of s k i) (record_shape s k i)

abbrev pub invariant-loop-i : goal.invariant-loop-i
invariant-loop-i l = (l.i ≤ l.count) × (all_below l.i (fits l.sheet.sheet.now l.k) ≡ true)
