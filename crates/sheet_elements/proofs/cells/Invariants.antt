use mathlib.Core.Path.{◌≡◌}
use Prim.Native.Nat.{◌-◌, ◌*◌, ◌≤◌, ◌<◌}
use Rattle.sheet_rules.specs.Fields.{sum_below}
use Rattle.sheet_rules.specs.Bindings.{first_binding}
use Rattle.sheet_rules.specs.Shape.{cells_bound}
use Rattle.sheet_elements.proofs.cells.Given as goal

abbrev pub invariant-loop : goal.invariant-loop
invariant-loop l = (l.sum ≤ 4294967296 * l.counter) × (l.sum ≡ sum_below l.counter (cells_bound l.sheet.sheet.now)) × (l.k ≡ first_binding l.sheet.sheet.now l.counter)
