use native.Mathlib.Omega.{arith}
use mathlib.Core.Path.{sym}
use Prim.Native.Nat.{◌-◌}
use Rattle.sheet.proofs.Sheet.{count_limit}
use Rattle.sheet_rules.proofs.Bindings.{walk_begins, walk_on_lem, walk_ends, behind_near}
use Rattle.sheet_bindings.proofs.elements_bound.Goals as goal

pub loop-k-init : goal.loop-k-init
loop-k-init c = (c.count-count.ensures, omega arith, omega arith, walk_begins _)

pub record_behind-k-requires : goal.record_behind-k-requires
record_behind-k-requires c = (omega (arith, c.loop-k.invariant.0, c.loop-k.invariant.2, count_limit c.args.sheet.now.sheet.now 7))

pub overflow_add-n : goal.overflow_add-n
overflow_add-n c = record { fits = omega (arith, c.loop-k.invariant.0, c.loop-k.invariant.1, c.loop-k.invariant.2, count_limit c.args.sheet.now.sheet.now 7) }

pub loop-k-smaller : goal.loop-k-smaller
loop-k-smaller c = omega (arith, c.record_behind-k.ensures.0, (behind_near c.args.sheet.now.sheet.now c.loop-k.k).0)

pub loop-k-preserved : goal.loop-k-preserved
loop-k-preserved c = let i = c.loop-k.invariant in
    let l = c.loop-k-test.true in
    let e = i.0 in
    let n = i.1 in
    let near = behind_near c.args.sheet.now.sheet.now c.loop-k.k in
    (i.0, omega (arith, c.record_behind-k.ensures.0, near.0), omega (arith, c.record_behind-k.ensures.1), walk_on_lem _ _ _ i.3 _ c.record_behind-k.ensures.0 (omega arith))

pub returns : goal.returns
returns c = let i = c.loop-k.invariant in
    let l = c.loop-k-test.false in
    let e = i.0 in
    (sym (walk_ends _ _ _ i.3 (omega arith)), omega (arith, i.1, i.2, count_limit c.args.sheet.now.sheet.now 7))
