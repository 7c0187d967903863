use Prim.Native.Nat.{◌+◌, ◌-◌, ◌≤◌}
use mathlib.Core.Path.{◌≡◌}
use Rattle.sheet_rules.specs.Indices.{cells_before}
use Rattle.engine_cells.specs.Cells.{Row}
use Rattle.engine_cells.proofs.fill_row.Given as goal

abbrev pub invariant-loop-n : goal.invariant-loop-n
invariant-loop-n l = (l.n ≤ l.count) × (l.next ≡ l.cell + cells_before l.sheet.sheet.now l.c l.n) × Row l.sheet.sheet.now l.c l.at l.cell l.n l.initial.cells l.cells
