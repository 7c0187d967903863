use mathlib.Core.Path.{◌≡◌}
use mathlib.Core.Bool.{true}
use Prim.Native.Nat.{◌-◌, ◌≤◌}
use Rattle.sheet.specs.All.{all_below}
use Rattle.sheet_rules.specs.Static.{section_static}
use Rattle.checker_reactions.specs.Entries.{Ready}
use Rattle.checker_statics.proofs.rules_hold.Given as goal

abbrev pub invariant-loop-k : goal.invariant-loop-k
invariant-loop-k l = (l.k ≤ 8) × (all_below l.k (section_static l.sheet.sheet.now) ≡ true) × Ready l.sheet.sheet.now l.tables
