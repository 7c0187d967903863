use Prim.Native.Nat.{ℕ, ◌+◌, ◌*◌, ◌-◌, ◌<◌, ◌≤◌}
use mathlib.Core.Path.{◌≡◌}
use mathlib.Core.List.{List}
use lib.ListN.{length, get_or}
use Rattle.sheet.specs.Sheet.{offset_of, count_of}
use Rattle.sheet_reader.proofs.directory.Given as goal

abbrev pub Entries : List ℕ → List ℕ → ℕ → Type 0
Entries s d k = (j : ℕ) → j < k → (get_or d (2 * j) 0 ≡ offset_of s j) × (get_or d (2 * j + 1) 0 ≡ count_of s j)

abbrev pub invariant-loop-k : goal.invariant-loop-k
invariant-loop-k l = (l.k ≤ 8) × (32 ≤ length l.sheet) × (length l.sections ≡ 16) × Entries l.sheet l.sections l.k
