use mathlib.Core.Path.{◌≡◌}
use Prim.Native.Nat.{◌+◌, ◌-◌, ◌≤◌}
use Rattle.sheet.specs.Sheet.{count_of}
use Rattle.sheet_rules.proofs.Bindings.{Walk}
use Rattle.sheet_bindings.proofs.elements_bound.Given as goal

abbrev pub invariant-loop-k : goal.invariant-loop-k
invariant-loop-k l = (l.count ≡ count_of l.sheet.sheet.now 7) × (l.n ≤ l.k) × (l.k ≤ l.count + 1) × Walk l.sheet.sheet.now l.k l.n

abbrev pub decreases-loop-k : goal.decreases-loop-k
decreases-loop-k l = l.count + 1 - l.k
