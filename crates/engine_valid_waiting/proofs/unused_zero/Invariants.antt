use mathlib.Core.Path.{◌≡◌}
use mathlib.Core.List.{List}
use mathlib.Core.Bool.{Bool, true}
use Prim.Native.Nat.{ℕ, ◌+◌, ◌-◌, ◌≤◌}
use lib.ListN.{length}
use lib.IntN.{ℤ}
use Rattle.sheet.specs.All.{all_below}
use Rattle.machine.specs.Valid.{zero_words}
use Rattle.engine_store.specs.Layout.{place_in}
use Rattle.engine_valid_waiting.proofs.unused_zero.Given as goal

abbrev pub unused : List ℤ → ℕ → ℕ → Bool
unused st n k = zero_words st (place_in (length st) (n + k)) 0

abbrev pub invariant-loop-k : goal.invariant-loop-k
invariant-loop-k l = (l.k ≤ l.count) × (all_below l.k (unused l.st l.n) ≡ true)
