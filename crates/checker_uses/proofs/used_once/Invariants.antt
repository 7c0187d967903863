use Prim.Native.Nat.{◌+◌, ◌-◌, ◌≤◌}
use mathlib.Core.Path.{◌≡◌}
use Rattle.sheet.specs.Sheet.{count_of}
use Rattle.sheet_rules.specs.Uses.{gone_over}
use Rattle.checker_pass.specs.Marks.{Kept}
use Rattle.checker_pass.proofs.Going.{Going}
use Rattle.checker_uses.proofs.used_once.Given as goal

abbrev pub invariant-loop-n : goal.invariant-loop-n
invariant-loop-n l = (l.gone + l.n ≡ gone_over l.sheet.sheet.now) × (l.gone + l.n ≤ 268378110) × Kept (count_of l.sheet.sheet.now 6) l.initial.marks l.marks × Going l.sheet.sheet.now l.n l.marks l.once
