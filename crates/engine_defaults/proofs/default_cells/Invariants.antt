use Prim.Native.Nat.{◌+◌, ◌-◌, ◌≤◌}
use mathlib.Core.Path.{◌≡◌}
use lib.ListN.{length}
use Rattle.sheet_rules.specs.Indices.{cells_before}
use Rattle.engine_defaults.proofs.State.{Written}
use Rattle.engine_defaults.proofs.default_cells.Given as goal

abbrev pub invariant-loop-j : goal.invariant-loop-j
invariant-loop-j l = (l.j ≤ l.count) × (length l.st ≡ length l.initial.st) × (l.next ≡ l.cell + cells_before l.sheet.sheet.now l.c l.j) × Written l.sheet.sheet.now l.c l.initial.st l.cell l.st l.j
