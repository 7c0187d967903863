use Prim.Native.Nat.{◌-◌, ◌≤◌}
use mathlib.Core.Path.{◌≡◌}
use lib.ListN.{length}
use Rattle.machine.specs.State.{cell_at, put_words}
use Rattle.machine.specs.Play.{alike}
use Rattle.engine_defaults.proofs.State.{cell_of_word}
use Rattle.engine_defaults.proofs.cells_alike.Given as goal

abbrev pub invariant-loop-k : goal.invariant-loop-k
invariant-loop-k l = (l.k ≤ l.n) × (length l.st ≡ length l.initial.st) × (l.st ≡ put_words l.initial.st (cell_at l.cell) (alike l.k (cell_of_word l.z)))
