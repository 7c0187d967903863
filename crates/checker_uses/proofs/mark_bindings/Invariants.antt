use Prim.Native.Nat.{ℕ, ◌-◌}
use mathlib.Core.Path.{◌≡◌}
use Rattle.sheet.specs.Sheet.{count_of}
use Rattle.sheet_rules.specs.Fields.{sum_below}
use Rattle.checker_pass.specs.Marks.{Marked}
use Rattle.checker_pass.proofs.Added.{binding_turn, Reached}
use Rattle.checker_uses.proofs.mark_bindings.Given as goal

abbrev pub invariant-loop-k : goal.invariant-loop-k
invariant-loop-k l = (l.total ≡ count_of l.sheet.sheet.now 7) × ((i : ℕ) × Reached l.sheet.sheet.now i l.k × Marked l.count 0 l.initial.marks l.marks (λ n. sum_below i (binding_turn l.sheet.sheet.now n)))

abbrev pub decreases-loop-k : goal.decreases-loop-k
decreases-loop-k l = l.total - l.k
