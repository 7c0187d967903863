use mathlib.Core.Path.{◌≡◌}
use mathlib.Core.Bool.{true}
use Prim.Native.Nat.{◌-◌, ◌≤◌}
use Rattle.sheet.specs.All.{all_below}
use Rattle.sheet_rules.specs.Shape.{section_shape}
use Rattle.checker_shape.proofs.sections_fit.Given as goal

abbrev pub invariant-loop-k : goal.invariant-loop-k
invariant-loop-k l = (l.k ≤ 8) × (all_below l.k (section_shape l.sheet.sheet.now) ≡ true)
