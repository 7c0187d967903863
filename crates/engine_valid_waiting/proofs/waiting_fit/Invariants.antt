use mathlib.Core.Path.{◌≡◌}
use mathlib.Core.List.{List}
use mathlib.Core.Bool.{Bool, true}
use Prim.Native.Nat.{ℕ, ◌-◌, ◌≤◌}
use lib.ListN.{length}
use lib.IntN.{ℤ}
use Rattle.sheet.specs.All.{all_below}
use Rattle.machine.specs.State.{telegram_in}
use Rattle.machine.specs.Valid.{telegram_fits}
use Rattle.engine_store.specs.Layout.{place_in}
use Rattle.engine_valid_waiting.proofs.waiting_fit.Given as goal

abbrev pub fits : List ℕ → List ℤ → ℕ → Bool
fits s st j = telegram_fits s (telegram_in st (place_in (length st) j))

abbrev pub invariant-loop-j : goal.invariant-loop-j
invariant-loop-j l = (l.j ≤ l.n) × (all_below l.j (fits l.yard.sheet.sheet.now l.st) ≡ true)
