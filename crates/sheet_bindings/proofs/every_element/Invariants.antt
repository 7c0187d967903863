use Prim.Native.Nat.{ℕ, ◌+◌, ◌-◌}
use mathlib.Core.Path.{◌≡◌}
use mathlib.Core.Bool.{Bool}
use Rattle.sheet.specs.Sheet.{count_of}
use Rattle.sheet_rules.proofs.Bindings.{Walked}
use Rattle.sheet_bindings.specs.Tests.{Tests}
use Rattle.sheet_bindings.proofs.every_element.Given as goal

abbrev pub invariant-loop-k : goal.invariant-loop-k
invariant-loop-k g l = (l.count ≡ count_of l.sheet.sheet.now 7) × ((p : ℕ → Bool) → Tests (goal.F-post g l.met) p → Walked l.sheet.sheet.now p l.k)

abbrev pub decreases-loop-k : goal.decreases-loop-k
decreases-loop-k g l = l.count + 1 - l.k
