use Prim.Native.Nat.{◌+◌, ◌-◌, ◌≤◌}
use mathlib.Core.Path.{◌≡◌}
use Rattle.sheet_rules.specs.Fields.{externals_of, elements_of}
use Rattle.machine.specs.Values.{first_cell}
use Rattle.machine.specs.State.{cell_at}
use Rattle.machine.specs.Play.{sliced_from}
use Rattle.engine_clocks.proofs.Onward.{After}
use Rattle.engine_clocks.proofs.slice.Given as goal

abbrev pub invariant-loop-i : goal.invariant-loop-i
invariant-loop-i l = (l.i ≤ l.count)
    × (l.first ≡ externals_of l.yard.sheet.sheet.now)
    × (l.count ≡ elements_of l.yard.sheet.sheet.now)
    × After l.yard.sheet.sheet.now (cell_at (first_cell l.yard.sheet.sheet.now (externals_of l.yard.sheet.sheet.now + l.i))) l.initial.st l.st
    × (sliced_from l.yard.sheet.sheet.now (elements_of l.yard.sheet.sheet.now) (externals_of l.yard.sheet.sheet.now) l.initial.st ≡ sliced_from l.yard.sheet.sheet.now (elements_of l.yard.sheet.sheet.now - l.i) (externals_of l.yard.sheet.sheet.now + l.i) l.st)
