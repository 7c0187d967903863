use Prim.Native.Nat.{ℕ, ◌+◌, ◌<◌}
use mathlib.Core.Path.{◌≡◌}
use mathlib.Core.Bool.{Bool, false}
use Rattle.sheet.specs.declared.Record.{Record}
use Rattle.sheet.specs.Names.{bodies}
use Rattle.sheet.specs.Sheet.{record_of}
use Rattle.sheet_rules.specs.Fields.{holds}
use Rattle.engine_finders.specs.Bodies.{Tests}
use Rattle.engine_finders.proofs.first_body.Given as goal

abbrev pub invariant-loop-j : goal.invariant-loop-j
invariant-loop-j g l = (p : Record → Bool) → Tests l.sheet.sheet.now (goal.F-post g l.fits) p → (i : ℕ) → i < l.j → holds (record_of l.sheet.sheet.now bodies (l.first + i)) p ≡ false
