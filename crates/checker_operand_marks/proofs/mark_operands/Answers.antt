use native.Mathlib.Omega.{arith}
use Prim.Native.Nat.{ℕ, ◌-◌}
use mathlib.Core.Path.{sym, ◌∙◌, ap}
use Rattle.checker_pass.proofs.Marking.{marked_as, loop-start, loop_more, loop-end}
use lib.Dec.{eqb}
use Rattle.sheet_rules.specs.Fields.{one_if}
use Rattle.checker_pass.proofs.Added.{operand_turn, operands_absent, operands_added}
use Rattle.checker_operand_marks.proofs.mark_operands.Goals as goal

pub returns-in_default : goal.returns-in_default
returns-in_default c = operands_absent _ _ _ _ _ (sym c.record.ensures ∙ c.in_default.is)

pub overflow_add-total : goal.overflow_add-total
overflow_add-total c = omega (arith, c.operands_at-o.ensures.1.count, c.operands_at-o.ensures.1.tail)

pub loop-j-init : goal.loop-j-init
loop-j-init c = (omega arith, loop-start _ _ _ _)

pub operand-requires : goal.operand-requires
operand-requires c = (c.operands_at-o.ensures.1, omega (arith, c.operands_at-o.ensures.1.count, c.operands_at-o.ensures.1.tail))

pub mark-requires : goal.mark-requires
mark-requires c = record { top_in_bounds = omega (arith, c.loop-j.invariant.1.kept.long, c.requires.m_in_bounds); k_bound = c.requires.k_bound }

pub loop-j-preserved : goal.loop-j-preserved
loop-j-preserved c = (omega arith, loop_more _ _ _ _ _ (operand_turn _ _) c.loop-j.j c.loop-j.invariant.1 (marked_as _ _ _ _ _ _ (λ n l. ap (λ (x : ℕ). one_if (eqb x n)) c.operand.ensures.0) c.mark.ensures))

pub shape_of-marks : goal.shape_of-marks
shape_of-marks c = c.loop-j.invariant.1.kept.long

pub returns : goal.returns
returns c = operands_added _ _ _ _ _ _ _ _ (sym c.record.ensures ∙ c.in-Some.is) c.operands_at-o.ensures.0 (loop-end _ _ _ _ (operand_turn _ _) c.loop-j.j _ (omega arith) c.loop-j.invariant.1)
