use Rattle.std.specs.Prelude.{Some}
use mathlib.Core.Path.{◌≡◌}
use mathlib.Core.List.{List}
use mathlib.Core.Bool.{Bool, true}
use Prim.Native.Nat.{ℕ, ◌+◌, ◌-◌, ◌≤◌}
use lib.IntN.{ℤ}
use Rattle.sheet.specs.All.{all_below}
use Rattle.machine.specs.Values.{chart_of}
use Rattle.machine.specs.State.{cell_at}
use Rattle.machine.specs.Valid.{cell_fits}
use Rattle.engine_valid_elements.proofs.variable_fits.Given as goal

abbrev pub fits : List ℕ → ℕ → ℕ → List ℤ → ℕ → ℕ → Bool
fits s e t st cell k = cell_fits s e t st (cell_at (cell + k))

abbrev pub invariant-loop-k : goal.invariant-loop-k
invariant-loop-k l = (l.k ≤ l.n) × ((e : ℕ) → chart_of l.sheet.sheet.now e ≡ Some l.c → all_below l.k (fits l.sheet.sheet.now e l.t l.st l.cell) ≡ true)
