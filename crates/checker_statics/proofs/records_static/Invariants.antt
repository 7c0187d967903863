use mathlib.Core.Path.{◌≡◌}
use mathlib.Core.Bool.{Bool, true}
use mathlib.Core.List.{List}
use Prim.Native.Nat.{ℕ, ◌-◌, ◌≤◌}
use Rattle.sheet.specs.All.{all_below}
use Rattle.sheet.specs.Sheet.{record_of}
use Rattle.sheet_rules.specs.Fields.{holds}
use Rattle.sheet_rules.specs.Static.{record_static}
use Rattle.checker_reactions.specs.Entries.{Ready}
use Rattle.checker_statics.proofs.records_static.Given as goal

abbrev pub fits : List ℕ → ℕ → ℕ → Bool
fits s k i = holds (record_of s k i) (record_static s k)

abbrev pub invariant-loop-i : goal.invariant-loop-i
invariant-loop-i l = (l.i ≤ l.count) × (all_below l.i (fits l.sheet.sheet.now l.k) ≡ true) × Ready l.sheet.sheet.now l.tables
