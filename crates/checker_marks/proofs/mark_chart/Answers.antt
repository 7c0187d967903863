use native.Mathlib.Omega.{arith}
use Prim.Native.Nat.{◌-◌}
use mathlib.Core.Path.{sym, ◌∙◌}
use Rattle.checker_pass.proofs.Marking.{count-start, count_more_lem, count-end, loop-start, loop_more, loop-end}
use Rattle.sheet.proofs.Sheet.{count_limit, present-below}
use Rattle.checker_pass.proofs.Added.{root_turn, chart_absent, chart_added}
use Rattle.checker_marks.proofs.mark_chart.Goals as goal

pub returns-in_default : goal.returns-in_default
returns-in_default c = chart_absent _ _ _ _ _ (sym c.record.ensures ∙ c.in_default.is)

pub overflow_add-k : goal.overflow_add-k
overflow_add-k c = omega (arith, count_limit c.args.sheet.now.sheet.now 4, present-below c.args.sheet.now.sheet.now 4 c.args.i _ (sym c.record.ensures ∙ c.in-Some.is))

pub overflow_cast-k : goal.overflow_cast-k
overflow_cast-k c = omega (arith, count_limit c.args.sheet.now.sheet.now 4, present-below c.args.sheet.now.sheet.now 4 c.args.i _ (sym c.record.ensures ∙ c.in-Some.is))

pub loop-j-init : goal.loop-j-init
loop-j-init c = (omega arith, omega arith, count-start _, loop-start _ _ _ _)

pub mark_root-gone-requires : goal.mark_root-gone-requires
mark_root-gone-requires c = let args = c.args in
    let c-here-is = sym c.record.ensures ∙ c.in-Some.is in record { count_in_bounds = omega (arith, c.loop-j.invariant.3.kept.long, c.requires.count_in_bounds); k_bound = omega (arith, count_limit args.sheet.now.sheet.now 4, present-below args.sheet.now.sheet.now 4 args.i _ c-here-is) }

pub overflow_add-gone : goal.overflow_add-gone
overflow_add-gone c = omega (arith, c.loop-j.invariant.1, c.mark_root-gone.ensures.1)

pub loop-j-preserved : goal.loop-j-preserved
loop-j-preserved c = let args = c.args in (
  omega arith,
  omega (arith, c.loop-j.invariant.1, c.mark_root-gone.ensures.1),
  count_more_lem _ c.loop-j.j _ _ c.loop-j.invariant.2 c.mark_root-gone.ensures.0,
  loop_more _ _ _ _ _ (root_turn args.sheet.now.sheet.now _) c.loop-j.j c.loop-j.invariant.3 c.mark_root-gone.ensures.2,
)

pub shape_of-marks : goal.shape_of-marks
shape_of-marks c = c.loop-j.invariant.3.kept.long

pub returns : goal.returns
returns c = chart_added _ _ _ _ _ _ _ _ (sym c.record.ensures ∙ c.in-Some.is) (count-end _ c.loop-j.j _ _ (omega arith) c.loop-j.invariant.2) (omega (arith, c.loop-j.invariant.1)) (loop-end _ _ _ _ (root_turn c.args.sheet.now.sheet.now _) c.loop-j.j _ (omega arith) c.loop-j.invariant.3)
