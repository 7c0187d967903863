use native.Mathlib.Omega.{arith}
use Prim.Native.Nat.{◌-◌}
use Rattle.sheet.proofs.Sheet.{count_limit}
use Rattle.sheet_rules.specs.Uses.{over_charts}
use Rattle.checker_pass.proofs.Marking.{count-start, count_more_lem, count-end}
use Rattle.checker_pass.proofs.Seen.{roots_start, roots_more, roots_end}
use Rattle.checker_uses.proofs.mark_charts.Goals as goal

pub loop-i-init : goal.loop-i-init
loop-i-init c = (omega arith, omega arith, count-start _, roots_start _ _ _ c.requires.by_index)

pub mark_chart-gone-requires : goal.mark_chart-gone-requires
mark_chart-gone-requires c = record { count_in_bounds = omega (arith, c.loop-i.invariant.3.kept.long, c.requires.count_in_bounds) }

pub overflow_add-gone : goal.overflow_add-gone
overflow_add-gone c = let args = c.args in
    omega (
      arith,
      c.loop-i.invariant.1,
      c.mark_chart-gone.ensures.1,
      count_limit args.sheet.now.sheet.now 4,
      c.count-total.ensures,
    )

pub loop-i-preserved : goal.loop-i-preserved
loop-i-preserved c = (omega arith, omega (arith, c.loop-i.invariant.1, c.mark_chart-gone.ensures.1), count_more_lem _ c.loop-i.i _ _ c.loop-i.invariant.2 c.mark_chart-gone.ensures.0, roots_more _ _ _ _ _ _ c.loop-i.invariant.3 c.mark_chart-gone.ensures.2)

pub shape_of-marks : goal.shape_of-marks
shape_of-marks c = c.loop-i.invariant.3.kept.long

pub returns : goal.returns
unfolding over_charts
returns c = let args = c.args in
    let count-opened-here = c.count-total.ensures in (
      count-end _ c.loop-i.i _ _ (omega (arith, count-opened-here)) c.loop-i.invariant.2,
      omega (arith, c.loop-i.invariant.1, count_limit args.sheet.now.sheet.now 4, count-opened-here),
      roots_end _ _ _ _ _ _ (omega (arith, count-opened-here)) c.loop-i.invariant.3,
    )
