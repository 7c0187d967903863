use Prim.Native.Nat.{ℕ, ◌+◌, ◌-◌, ◌≤◌, ◌<◌}
use mathlib.Core.Path.{◌≡◌}
use mathlib.Core.Bool.{Bool, true}
use lib.Dec.{eqb}
use Rattle.sheet.specs.declared.Record.{Record}
use Rattle.sheet.specs.All.{all_below}
use Rattle.sheet_rules.specs.Fields.{field_of}
use Rattle.sheet_fields.proofs.zero_from.Given as goal

abbrev pub is_zero : Record → ℕ → ℕ → Bool
is_zero r n i = eqb (field_of r (n + i)) 0

abbrev pub invariant-loop-i : goal.invariant-loop-i
invariant-loop-i l = (l.n < 8) × (l.i ≤ 8 - l.n) × (all_below l.i (is_zero l.r l.n) ≡ true)
