use mathlib.Core.Path.{◌≡◌}
use mathlib.Core.Bool.{Bool, true}
use mathlib.Core.List.{List}
use Prim.Native.Nat.{ℕ, ◌+◌, ◌-◌, ◌≤◌}
use lib.Dec.{eqb}
use Rattle.sheet.specs.All.{all_below}
use Rattle.sheet_rules.specs.Fields.{type_at}
use Rattle.checker_roles.proofs.same_types.Given as goal

abbrev pub same_type : List ℕ → ℕ → ℕ → ℕ → Bool
same_type s a b j = eqb (type_at s (a + j)) (type_at s (b + j))

abbrev pub invariant-loop-j : goal.invariant-loop-j
invariant-loop-j l = (l.j ≤ l.count) × (all_below l.j (same_type l.sheet.sheet.now l.from l.with) ≡ true)
