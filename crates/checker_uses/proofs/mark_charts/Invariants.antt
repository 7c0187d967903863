use Prim.Native.Nat.{◌-◌, ◌*◌, ◌≤◌}
use mathlib.Core.Path.{◌≡◌}
use Rattle.sheet_rules.specs.Fields.{sum_below}
use Rattle.checker_pass.specs.Marks.{RootsMarked}
use Rattle.checker_pass.proofs.Added.{chart_turn}
use Rattle.checker_uses.proofs.mark_charts.Given as goal

abbrev pub invariant-loop-i : goal.invariant-loop-i
invariant-loop-i l = (l.i ≤ l.total) × (l.gone ≤ 65536 * l.i) × (l.gone ≡ sum_below l.i (chart_turn l.sheet.sheet.now)) × RootsMarked l.sheet.sheet.now l.i l.count l.initial.marks l.marks
