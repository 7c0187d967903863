use Prim.Native.Nat.{◌+◌, ◌-◌, ◌≤◌}
use mathlib.Core.Path.{◌≡◌}
use Rattle.sheet_rules.specs.Indices.{cells_before}
use Rattle.machine.specs.Values.{first_cell}
use Rattle.machine.specs.State.{cell_at}
use Rattle.machine.specs.Play.{sliced_cells}
use Rattle.engine_clocks.proofs.Onward.{After}
use Rattle.engine_clocks.proofs.slice_cells.Given as goal

abbrev pub invariant-loop-j : goal.invariant-loop-j
invariant-loop-j l = (l.j ≤ l.count) × After l.yard.sheet.sheet.now (cell_at (first_cell l.yard.sheet.sheet.now l.e + cells_before l.yard.sheet.sheet.now l.c l.j)) l.initial.st l.st × (sliced_cells l.yard.sheet.sheet.now l.e l.c.f3 l.c.f2 (first_cell l.yard.sheet.sheet.now l.e) l.initial.st ≡ sliced_cells l.yard.sheet.sheet.now l.e (l.c.f3 - l.j) (l.c.f2 + l.j) (first_cell l.yard.sheet.sheet.now l.e + cells_before l.yard.sheet.sheet.now l.c l.j) l.st)
