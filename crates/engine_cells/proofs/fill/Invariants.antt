use Prim.Native.Nat.{◌-◌, ◌≤◌}
use mathlib.Core.Path.{◌≡◌}
use Rattle.sheet_rules.specs.Fields.{sum_below}
use Rattle.sheet_rules.specs.Bindings.{first_binding}
use Rattle.sheet_rules.specs.Shape.{cells_bound}
use Rattle.engine_cells.proofs.Laws.{Rows}
use Rattle.engine_cells.proofs.fill.Given as goal

abbrev pub invariant-loop-i : goal.invariant-loop-i
invariant-loop-i l = (l.i ≤ l.count) × (l.cell ≡ sum_below l.i (cells_bound l.sheet.sheet.now)) × (l.k ≡ first_binding l.sheet.sheet.now l.i) × Rows l.sheet.sheet.now l.i l.cells
