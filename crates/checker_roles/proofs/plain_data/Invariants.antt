use mathlib.Core.Path.{◌≡◌}
use mathlib.Core.Bool.{Bool, true, not}
use mathlib.Core.List.{List}
use Prim.Native.Nat.{ℕ, ◌+◌, ◌-◌, ◌≤◌}
use Rattle.sheet.specs.All.{◌and◌, all_below}
use Rattle.sheet_rules.specs.Fields.{type_at}
use Rattle.sheet_rules.specs.Indices.{index_at, is_plain}
use Rattle.sheet.specs.Names.{is_clock}
use Rattle.checker_roles.proofs.plain_data.Given as goal

abbrev pub plainDatum : List ℕ → ℕ → ℕ → Bool
plainDatum s first j = not (is_clock (type_at s (first + j))) and is_plain (index_at s (first + j))

abbrev pub invariant-loop-j : goal.invariant-loop-j
invariant-loop-j l = (l.j ≤ l.count) × (all_below l.j (plainDatum l.sheet.sheet.now l.first) ≡ true)
