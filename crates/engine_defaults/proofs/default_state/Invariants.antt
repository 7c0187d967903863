use Prim.Native.Nat.{◌-◌, ◌≤◌}
use mathlib.Core.Path.{◌≡◌}
use lib.ListN.{length}
use Rattle.sheet_rules.specs.Fields.{sum_below, elements_of}
use Rattle.sheet_rules.specs.Bindings.{first_binding}
use Rattle.sheet_rules.specs.Shape.{cells_bound}
use Rattle.machine.specs.State.{state_length}
use Rattle.engine_defaults.proofs.State.{Filled}
use Rattle.engine_defaults.proofs.default_state.Given as goal

abbrev pub invariant-loop-i : goal.invariant-loop-i
invariant-loop-i l = (l.i ≤ l.count) × (l.count ≡ elements_of l.sheet.sheet.now) × (length l.st ≡ state_length l.sheet.sheet.now) × (l.cell ≡ sum_below l.i (cells_bound l.sheet.sheet.now)) × Filled l.sheet.sheet.now l.initial.st l.st l.cell l.i × (l.k ≡ first_binding l.sheet.sheet.now l.i)
