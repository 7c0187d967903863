use mathlib.Core.Path.{◌≡◌}
use mathlib.Core.Bool.{true}
use Prim.Native.Nat.{◌+◌, ◌*◌, ◌-◌, ◌<◌, ◌≤◌}
use Rattle.sheet.specs.All.{all_below}
use Rattle.sheet_rules.specs.Fields.{externals_of}
use Rattle.machine.specs.Valid.{variable_fits}
use Rattle.engine_valid_elements.proofs.element_fits.Given as goal

abbrev pub invariant-loop-j : goal.invariant-loop-j
invariant-loop-j l = (l.j ≤ l.count) × (l.row + l.count < 2176) × (l.row ≡ 34 * (l.e - externals_of l.yard.sheet.sheet.now)) × (all_below l.j (variable_fits l.yard.sheet.sheet.now l.st l.e l.c) ≡ true)
