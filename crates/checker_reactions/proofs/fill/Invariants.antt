use Prim.Native.Nat.{◌-◌, ◌≤◌}
use Rattle.sheet_rules.specs.Types.{reacts_to}
use Rattle.checker_reactions.specs.Entries.{Entries}
use Rattle.checker_reactions.proofs.Entries.{Filled}
use Rattle.checker_reactions.proofs.fill.Given as goal

abbrev pub invariant-loop-j : goal.invariant-loop-j
invariant-loop-j l = (l.j ≤ l.count) × Entries l.sheet.sheet.now reacts_to l.table × Filled l.sheet.sheet.now l.first l.j l.table
