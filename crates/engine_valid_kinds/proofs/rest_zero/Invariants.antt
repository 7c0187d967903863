use mathlib.Core.Path.{◌≡◌}
use mathlib.Core.Bool.{Bool, true}
use mathlib.Core.List.{List}
use Prim.Native.Nat.{ℕ, ◌+◌, ◌-◌, ◌≤◌}
use lib.IntN.{ℤ}
use Rattle.sheet.specs.All.{all_below}
use Rattle.machine.specs.Values.{is_zero}
use Rattle.machine.specs.State.{word_of}
use Rattle.engine_valid_kinds.proofs.rest_zero.Given as goal

abbrev pub zero-from : List ℤ → ℕ → ℕ → Bool
zero-from ev i k = is_zero (word_of ev (i + k))

abbrev pub invariant-loop-k : goal.invariant-loop-k
invariant-loop-k l = (l.k ≤ l.count) × (all_below l.k (zero-from l.ev l.i) ≡ true)
