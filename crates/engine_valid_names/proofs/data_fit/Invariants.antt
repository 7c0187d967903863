use mathlib.Core.Path.{◌≡◌}
use mathlib.Core.Bool.{Bool, true}
use mathlib.Core.List.{List}
use Prim.Native.Nat.{ℕ, ◌+◌}
use lib.IntN.{ℤ}
use Rattle.sheet.specs.declared.Range.{Range}
use Rattle.sheet.specs.All.{all_below}
use Rattle.machine.specs.State.{word_of}
use Rattle.engine_valid_names.specs.Parts.{datum_fits}
use Rattle.engine_valid_names.proofs.data_fit.Given as goal

abbrev pub datum : List ℕ → Range → List ℤ → ℕ → ℕ → Bool
datum s g st at j = datum_fits s g j (word_of st (at + j))

abbrev pub invariant-loop-j : goal.invariant-loop-j
invariant-loop-j l = all_below l.j (datum l.sheet.sheet.now l.g l.st l.at) ≡ true
