use mathlib.Core.Path.{◌≡◌}
use mathlib.Core.Bool.{Bool, true}
use mathlib.Core.List.{List}
use Prim.Native.Nat.{ℕ, ◌-◌, ◌≤◌}
use lib.Dec.{ltb}
use Rattle.sheet.specs.All.{◌and◌, all_below}
use Rattle.sheet.specs.declared.Record.{Record}
use Rattle.sheet_rules.specs.Forms.{operands_of, operand_at}
use Rattle.sheet_rules.specs.Shape.{tree_shape}
use Rattle.checker_trees.proofs.+tree_fits.Given as goal

unfoldable pub operandFits : List ℕ → Record → Record → ℕ → ℕ → Record → ℕ → Bool
operandFits s c b k n r j = ltb (operand_at r (operands_of s c r) j) n and tree_shape s c b k (operand_at r (operands_of s c r) j)

abbrev pub decreases-tree_fits : goal.decreases-tree_fits
decreases-tree_fits l = l.levels

abbrev pub invariant-loop-j : goal.invariant-loop-j
invariant-loop-j l = (l.j ≤ l.count) × (all_below l.j (operandFits l.sheet.sheet.now l.c l.b (l.levels - 1) l.n l.r) ≡ true)
