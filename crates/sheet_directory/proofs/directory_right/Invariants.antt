use Prim.Native.Nat.{◌≤◌}
use mathlib.Core.Path.{◌≡◌}
use mathlib.Core.Bool.{true}
use Rattle.sheet.specs.All.{all_below}
use Rattle.sheet.specs.Sheet.{start_of, pair_right}
use Rattle.sheet_directory.proofs.directory_right.Given as goal

abbrev pub invariant-loop-k : goal.invariant-loop-k
invariant-loop-k l = (l.k ≤ 8) × (l.start ≡ start_of l.sheet l.k) × (all_below l.k (pair_right l.sheet) ≡ true)
