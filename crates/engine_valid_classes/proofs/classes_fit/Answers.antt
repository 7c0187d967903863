use Prim.Native.Nat.{◌-◌}
use mathlib.Core.Path.{refl}
use native.Mathlib.Omega.{arith}
use Rattle.engine_valid_classes.proofs.Laws.{counted_none, counted_more_lem, few_fit, counted_fit, counted_full, number_is, number-below}
use Rattle.engine_valid_classes.proofs.classes_fit.Goals as goal

pub returns-then-n-le16 : goal.returns-then-n-le16
returns-then-n-le16 c = λ s e. few_fit _ _ c.requires.1 s e c.requires.0.number c.if-n-le16.true

pub loop-j-init : goal.loop-j-init
loop-j-init c = (omega arith, counted_none _)

pub class_number-k-requires : goal.class_number-k-requires
class_number-k-requires c = let waits = c.requires.0 in
    let l = c.loop-j-test.true in
    let e = c.place_at.ensures in
    (omega arith, rw e (c.requires.1 _ l))

pub bounds-counts-k : goal.bounds-counts-k
bounds-counts-k c = let k = number_is _ _ _ _ c.place_at.ensures c.class_number-k.ensures in
    rw k (number-below _ (c.requires.1 _ c.loop-j-test.true))

pub returns-then-count-eq16 : goal.returns-then-count-eq16
returns-then-count-eq16 c s e = let k = number_is _ _ _ _ c.place_at.ensures c.class_number-k.ensures in
    counted_full _ _ c.requires.1 s e c.requires.0.number c.loop-j.j c.loop-j.counts c.loop-j-test.true c.loop-j.invariant.1 _ k c.if-count-eq16.true

pub overflow_add-counts : goal.overflow_add-counts
overflow_add-counts c = let k = number_is _ _ _ _ c.place_at.ensures c.class_number-k.ensures in
    let m = (c.loop-j.invariant.1.1 c.class_number-k.result (rw k (number-below _ (c.requires.1 _ c.loop-j-test.true)))).1 in
    record { fits = omega arith }

pub bounds-counts-k-in-loop-j : goal.bounds-counts-k-in-loop-j
bounds-counts-k-in-loop-j c = let k = number_is _ _ _ _ c.place_at.ensures c.class_number-k.ensures in
    rw k (number-below _ (c.requires.1 _ c.loop-j-test.true))

pub loop-j-preserved : goal.loop-j-preserved
loop-j-preserved c = let l = c.loop-j-test.true in
    let k = number_is _ _ _ _ c.place_at.ensures c.class_number-k.ensures in
    (omega arith, counted_more_lem _ _ c.requires.1 c.loop-j.j c.loop-j.counts l c.loop-j.invariant.1 _ _ k refl c.if-count-eq16.false)

pub returns : goal.returns
returns c s e = counted_fit _ _ c.requires.1 s e c.requires.0.number c.loop-j.j c.loop-j.counts c.loop-j.invariant.0 c.loop-j-test.false c.loop-j.invariant.1
