use mathlib.Core.Path.{◌≡◌}
use mathlib.Core.Bool.{Bool, true}
use mathlib.Core.List.{List}
use Prim.Native.Nat.{ℕ, ◌+◌, ◌-◌, ◌≤◌, ◌<◌}
use Rattle.sheet.specs.All.{◌and◌, all_below}
use Rattle.sheet.specs.declared.Record.{Record}
use Rattle.sheet.specs.Sheet.{record_of}
use Rattle.sheet_rules.specs.Fields.{holds}
use Rattle.sheet_rules.specs.Static.{no_twin, body_static}
use Rattle.checker_reactions.specs.Entries.{Chains, Entries}
use Rattle.sheet_rules.specs.Types.{reacts_to}
use Rattle.sheet_types.specs.Table.{Table}
use Rattle.checker_chart_rules.proofs.bodies_static.Given as goal

abbrev pub bodyFits : List ℕ → Record → ℕ → Bool
bodyFits s c j = holds (record_of s 5 (c.f4 + j)) (λ b. no_twin s c j b and body_static s c b)

abbrev pub invariant-loop-j : goal.invariant-loop-j
invariant-loop-j l = (l.j ≤ l.count) × (l.count < 65536) × (all_below l.j (bodyFits l.sheet.sheet.now l.c) ≡ true) × Chains l.sheet.sheet.now l.first (l.first + l.j) l.tables.last l.tables.previous × Entries l.sheet.sheet.now reacts_to l.tables.internal × Table l.sheet.sheet.now l.c l.tables.internal
