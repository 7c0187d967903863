use Prim.Native.Nat.{ℕ, ◌-◌}
use mathlib.Core.Path.{◌≡◌}
use mathlib.Core.List.{List}
use mathlib.Core.Bool.{Bool}
use lib.ListN.{length}
use Rattle.machine.specs.declared.Telegram.{Telegram}
use Rattle.machine.specs.State.{state_length}
use Rattle.machine.specs.Play.{oldest_from, oldest}
use Rattle.engine_searching.specs.Tests.{Tests}
use Rattle.engine_searching.proofs.oldest.Given as goal

abbrev pub invariant-loop-j : goal.invariant-loop-j
invariant-loop-j g l = (s : List ℕ) (p : Telegram → Bool) → length l.st ≡ state_length s → Tests l.st (goal.F-post g l.is_sought) p → oldest s l.st p ≡ oldest_from s l.st p (l.n - l.j) l.j
