use Prim.Native.Nat.{◌+◌, ◌*◌, ◌-◌, ◌≤◌}
use mathlib.Core.Path.{◌≡◌}
use Rattle.machine.specs.Valid.{OfSheet}
use Rattle.machine.specs.Play.{started, start_from, limit_of}
use Rattle.engine_starts.proofs.from_defaults.Given as goal

abbrev pub invariant-loop-i : goal.invariant-loop-i
invariant-loop-i l = OfSheet l.yard.sheet.sheet.now l.st × (l.steps ≤ l.i * 65535) × (started l.yard.sheet.sheet.now (limit_of l.yard.sheet.sheet.now) ≡ start_from l.yard.sheet.sheet.now (limit_of l.yard.sheet.sheet.now) (l.count - l.i) (l.first + l.i) l.steps l.st)
