use mathlib.Core.Path.{◌≡◌}
use mathlib.Core.List.{List}
use mathlib.Core.Bool.{Bool, true}
use Prim.Native.Nat.{ℕ, ◌+◌, ◌-◌, ◌≤◌, ◌<◌}
use lib.IntN.{ℤ}
use Rattle.sheet.specs.All.{all_below}
use Rattle.machine.specs.Valid.{element_fits}
use Rattle.engine_valid_state.proofs.cells_fit.Given as goal

abbrev pub fits : List ℕ → List ℤ → ℕ → ℕ → Bool
fits s st from i = element_fits s st (from + i)

abbrev pub invariant-loop-i : goal.invariant-loop-i
invariant-loop-i l = (l.i ≤ l.count) × (l.count < 64) × (l.from < 65536) × (all_below l.i (fits l.yard.sheet.sheet.now l.st l.from) ≡ true)
