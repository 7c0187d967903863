-- A state's layout by its cells and words is that of the machine.
use Prim.Native.Nat.{ℕ, ◌≤◌}
use mathlib.Core.Path.{◌≡◌}
use mathlib.Core.List.{List}
use native.Mathlib.Omega.{arith}
use Rattle.sheet_rules.specs.Shape.{most_cells, cells_of}
use Rattle.machine.specs.State.{place_at, state_length}
use Rattle.engine_store.specs.Layout.{words_with, shortest, longest, place_in}

pub words_with_lem : (s : List ℕ) (cells : ℕ) → cells ≡ cells_of s → words_with cells ≡ state_length s
unfolding place_at state_length
words_with_lem s cells e = omega arith

pub place_in_lem : (s : List ℕ) (n j : ℕ) → n ≡ state_length s → place_in n j ≡ place_at s j
unfolding place_at state_length
place_in_lem s n j e = omega arith

pub at_least : (s : List ℕ) (n : ℕ) → n ≡ state_length s → shortest ≤ n
unfolding place_at state_length
at_least s n e = omega arith

pub at_most : (s : List ℕ) (n : ℕ) → cells_of s ≤ most_cells → n ≡ state_length s → n ≤ longest
unfolding place_at state_length
at_most s n few e = omega arith
