use native.Mathlib.Omega.{arith}
use Prim.Native.Nat.{◌-◌}
use mathlib.Core.Path.{refl, ◌∙◌}
use Rattle.sheet.proofs.Sheet.{count_limit, record_present}
use Rattle.sheet_rules.specs.Uses.{gone_over}
use Rattle.sheet_rules.proofs.Fields.{number-present}
use Rattle.checker_pass.proofs.Marking.{kept-all, kept_set, kept_then, kept_lower, kept_at, room_set}
use Rattle.checker_pass.proofs.Seen.{agreed_start}
use Rattle.checker_pass.proofs.Going.{going_start, going_more, test_gives}
use Rattle.checker_uses.proofs.used_once.Goals as goal

pub clear-requires : goal.clear-requires
clear-requires c = omega (arith, c.count-count.ensures, c.requires.nodes_in_bounds)

pub mark_charts-bodies-requires : goal.mark_charts-bodies-requires
mark_charts-bodies-requires c = let args = c.args in
    record { count_in_bounds = omega (arith, c.count-count.ensures, c.requires.nodes_in_bounds, c.clear.ensures.kept.long); by_index = c.clear.ensures.inside }

pub mark_bindings-bindings-requires : goal.mark_bindings-bindings-requires
mark_bindings-bindings-requires c = let args = c.args in
    record {
      count_in_bounds = omega (
        arith,
        c.count-count.ensures,
        c.requires.nodes_in_bounds,
        c.clear.ensures.kept.long,
        c.mark_charts-bodies.ensures.2.kept.long,
      );
    }

pub overflow_add-gone : goal.overflow_add-gone
overflow_add-gone c = omega (arith, c.mark_charts-bodies.ensures.1, c.mark_bindings-bindings.ensures.0, count_limit c.args.sheet.now.sheet.now 7)

pub loop-n-init : goal.loop-n-init
unfolding gone_over
loop-n-init c = let args = c.args in
    let count-opened-here = c.count-count.ensures in
    let agreed-start-here = agreed_start _ _ _ _ _ _ count-opened-here refl c.mark_charts-bodies.ensures.2 c.mark_bindings-bindings.ensures.1 in (
      omega (arith, c.mark_charts-bodies.ensures.0, c.mark_bindings-bindings.ensures.0, count-opened-here),
      omega (arith, c.mark_charts-bodies.ensures.1, c.mark_bindings-bindings.ensures.0, count_limit args.sheet.now.sheet.now 7, count_limit args.sheet.now.sheet.now 6, count-opened-here),
      kept-all _ _,
      going_start _ _ _ count-opened-here agreed-start-here,
    )

pub offset_bounds-marks-n : goal.offset_bounds-marks-n
offset_bounds-marks-n c = omega (arith, c.loop-n.invariant.2.long, c.loop-n.invariant.3.inside, c.requires.nodes_in_bounds)

pub bounds-marks-n : goal.bounds-marks-n
bounds-marks-n c = omega (arith, c.loop-n.invariant.2.long, c.loop-n.invariant.3.inside, c.requires.nodes_in_bounds)

pub offset_bounds-marks-n-in-loop-n : goal.offset_bounds-marks-n-in-loop-n
offset_bounds-marks-n-in-loop-n c = omega (arith, c.loop-n.invariant.2.long, c.loop-n.invariant.3.inside, c.requires.nodes_in_bounds)

pub bounds-marks-n-in-loop-n : goal.bounds-marks-n-in-loop-n
bounds-marks-n-in-loop-n c = omega (arith, c.loop-n.invariant.2.long, c.loop-n.invariant.3.inside, c.requires.nodes_in_bounds)

pub mark_operands-gone-requires : goal.mark_operands-gone-requires
mark_operands-gone-requires c = record {
  m_in_bounds = room_set c.loop-n.marks (c.loop-n.n - 1) _
      (omega (
        arith,
        c.loop-n.invariant.2.long,
        c.loop-n.invariant.3.inside,
        c.requires.nodes_in_bounds,
        c.mark_bindings-bindings.ensures.1.kept.long,
        c.mark_charts-bodies.ensures.2.kept.long,
        c.clear.ensures.kept.long,
      ));
  k_bound = omega (arith, c.slice_known-in-loop-n-1.given (c.loop-n.n - 1));
}

pub overflow_add-gone-in-loop-n : goal.overflow_add-gone-in-loop-n
overflow_add-gone-in-loop-n c = omega (arith, c.loop-n.invariant.1, c.mark_operands-gone.ensures.1)

pub loop-n-preserved : goal.loop-n-preserved
loop-n-preserved c = let args = c.args in
    let there = record_present args.sheet.now.sheet.now 6 (c.loop-n.n - 1) (omega (arith, c.loop-n.invariant.3.inside)) in (
      omega (arith, c.loop-n.invariant.0, c.mark_operands-gone.ensures.0 ∙ number-present _ _ _ there),
      omega (arith, c.loop-n.invariant.1, c.mark_operands-gone.ensures.1),
      kept_then _ _ _ _ c.loop-n.invariant.2
          (kept_then _ _ _ _ (kept_set _ _ _ _ (omega (arith, c.loop-n.invariant.3.inside)))
          (kept_lower _ _ _ _ (omega (arith, c.loop-n.invariant.3.inside)) c.mark_operands-gone.ensures.2.kept)),
      going_more _ _ _ _ _ (omega arith) c.loop-n.invariant.3 _ _ _ (omega (arith, c.loop-n.invariant.2.long, c.loop-n.invariant.3.inside, c.requires.nodes_in_bounds)) refl
          c.still_once-once.ensures c.mark_operands-gone.ensures.2,
    )

pub shape_of-marks : goal.shape_of-marks
shape_of-marks c = c.loop-n.invariant.2.long ∙ c.mark_bindings-bindings.ensures.1.kept.long ∙ c.mark_charts-bodies.ensures.2.kept.long ∙ c.clear.ensures.kept.long

pub returns : goal.returns
returns c = let args = c.args in
    let count-opened-here = c.count-count.ensures in
    let kept-then-here = kept_then _ _ _ _ c.clear.ensures.kept (kept_then _ _ _ _ c.mark_charts-bodies.ensures.2.kept c.mark_bindings-bindings.ensures.1.kept) in
    let kept-then-here2 = kept_then _ _ _ _ (kept_at _ _ _ _ count-opened-here kept-then-here) c.loop-n.invariant.2 in
    test_gives _ _ _ _ _ _ (omega arith) kept-then-here2 c.loop-n.invariant.3 c.loop-n.invariant.0
