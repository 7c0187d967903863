use native.Mathlib.Omega.{arith}
use mathlib.Core.Path.{◌≡◌, refl}
use mathlib.Core.List.{List}
use Prim.Native.Nat.{ℕ, ◌-◌, ◌≤◌}
use borrow.Author.Rules.{rules}
use Rattle.sheet.specs.declared.Record.{Record}
use Rattle.sheet_rules.specs.Fields.{sum_below}
use Rattle.sheet_rules.specs.Indices.{cells_before}
use Rattle.sheet_elements.proofs.Laws.{sum_next}
use Rattle.sheet_elements.proofs.cells_before.Invariants.{cells_from}
use Rattle.sheet_elements.proofs.cells_before.Goals as goal

all-summed : (s : List ℕ) (c : Record) (n j sum : ℕ) → j ≤ n → n ≤ j → sum ≡ sum_below j (cells_from s c.f2) → sum ≡ cells_before s c n
unfolding cells_before
all-summed s c n j sum a b p = let same : n ≡ j = omega arith in rw same p

pub loop-j-init : goal.loop-j-init
unfolding sum_below
loop-j-init c = (omega arith, search rules, search rules, omega arith, refl)

pub loop-j-preserved : goal.loop-j-preserved
loop-j-preserved c = (omega arith, c.loop-j.invariant.1, c.loop-j.invariant.2, omega (arith, c.cells_taken-sum.ensures.1), sum_next (cells_from _ _) _ _ _ c.loop-j.invariant.4 c.cells_taken-sum.ensures.0)

pub returns : goal.returns
returns c = (all-summed _ _ _ _ _ c.loop-j.invariant.0 c.loop-j-test.false c.loop-j.invariant.4, omega arith)
