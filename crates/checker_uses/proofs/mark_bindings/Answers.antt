use native.Mathlib.Omega.{arith}
use Prim.Native.Nat.{◌+◌, ◌-◌}
use mathlib.Core.Path.{sym, ap}
use Rattle.sheet.proofs.Sheet.{count_limit}
use Rattle.sheet_rules.specs.Uses.{constant_uses}
use Rattle.checker_pass.proofs.Marking.{marked_as, loop-start, loop_more, loop-end}
use Rattle.checker_pass.proofs.Added.{binding_turn, reached-first, reached_next}
use Rattle.checker_uses.proofs.mark_bindings.Goals as goal

pub loop-k-init : goal.loop-k-init
loop-k-init c = (c.count-total.ensures, (0, reached-first _, loop-start _ _ _ _))

pub mark_binding-k-requires : goal.mark_binding-k-requires
mark_binding-k-requires c = let x = c.loop-k.invariant in
    let l = c.loop-k-test.true in
    record { count_in_bounds = omega (arith, x.1.2.kept.long, c.requires.count_in_bounds); k_bound = omega (arith, x.0) }

pub overflow_add-k : goal.overflow_add-k
overflow_add-k c = let sheet = c.args.sheet.now.sheet.now in
    let x = c.loop-k.invariant in
    let l = c.loop-k-test.true in
    record { fits = omega (arith, x.0, c.mark_binding-k.ensures.1, count_limit sheet 7) }

pub loop-k-smaller : goal.loop-k-smaller
loop-k-smaller c = let x = c.loop-k.invariant in
    let l = c.loop-k-test.true in
    omega (arith, x.0, (reached_next _ _ _ _ x.1.1 (omega (arith, x.0)) c.mark_binding-k.ensures.0).0)

pub loop-k-preserved : goal.loop-k-preserved
loop-k-preserved c = let x = c.loop-k.invariant in
    let l = c.loop-k-test.true in
    let m = c.mark_binding-k.ensures in
    let i = x.1.0 in
    let at = (x.1.1.walk (omega (arith, x.0))).at in
    let next = (reached_next _ i _ _ x.1.1 (omega (arith, x.0)) m.0).1 in
    (x.0, (i + 1, next, loop_more _ _ _ _ _ (binding_turn _) i x.1.2 (marked_as _ _ _ _ _ _ (λ n _. ap (constant_uses _ n) at) m.2)))

pub shape_of-marks : goal.shape_of-marks
shape_of-marks c = c.loop-k.invariant.1.2.kept.long

pub returns : goal.returns
returns c = let sheet = c.args.sheet.now.sheet.now in
    let x = c.loop-k.invariant in
    let l = c.loop-k-test.false in
    let all = x.1.1.all (omega (arith, x.0)) in
    (omega (arith, x.0, x.1.1.inside), loop-end _ _ _ _ (binding_turn sheet) x.1.0 _ (sym all) x.1.2)
