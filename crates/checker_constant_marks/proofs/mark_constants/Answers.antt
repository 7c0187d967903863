use native.Mathlib.Omega.{arith}
use Prim.Native.Nat.{ℕ, ◌-◌}
use mathlib.Core.Path.{ap}
use lib.Dec.{eqb}
use Rattle.sheet_rules.specs.Fields.{one_if, count_below}
use Rattle.checker_pass.specs.Marks.{constants_named}
use Rattle.checker_pass.proofs.Marking.{marked_as, loop-start, loop_more, loop-end}
use Rattle.checker_pass.proofs.Added.{constant_turn}
use Rattle.checker_constant_marks.proofs.mark_constants.Goals as goal

pub loop-j-init : goal.loop-j-init
loop-j-init c = (omega arith, loop-start _ _ _ _)

pub mark-requires : goal.mark-requires
mark-requires c = record { top_in_bounds = omega (arith, c.loop-j.invariant.1.kept.long, c.requires.count_in_bounds); k_bound = omega arith }

pub loop-j-preserved : goal.loop-j-preserved
loop-j-preserved c = let field = c.field.ensures.0 in
    let marked = marked_as _ _ _ _ _ _ (λ m l. ap (λ (x : ℕ). one_if (eqb x m)) field) c.mark.ensures in
    (omega arith, loop_more _ _ _ _ _ (constant_turn _) c.loop-j.j c.loop-j.invariant.1 marked)

pub shape_of-marks : goal.shape_of-marks
shape_of-marks c = c.loop-j.invariant.1.kept.long

pub returns : goal.returns
unfolding constants_named count_below
returns c = loop-end _ _ _ _ (constant_turn _) c.loop-j.j _ (omega arith) c.loop-j.invariant.1
