use Prim.Native.Nat.{◌-◌, ◌≤◌}
use Rattle.engine_defaults.proofs.Laws.{Begun}
use Rattle.engine_defaults.proofs.fresh_locals.Given as goal

abbrev pub invariant-loop-i : goal.invariant-loop-i
invariant-loop-i l = (l.i ≤ l.count) × Begun l.sheet.sheet.now l.b l.d l.i l.locals
