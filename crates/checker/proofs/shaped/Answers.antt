use native.Mathlib.Omega.{arith}
use Prim.Native.Nat.{ℕ, ◌≤◌}
use mathlib.Core.Path.{◌≡◌, sym}
use lib.ListN.{length, take, replicate, length-replicate}
use lib.Seq.{length-take-le}
use Rattle.sheet.proofs.Sheet.{count_limit}
use Rattle.checker.proofs.shaped.Goals as goal

-- the first n of fresh marks
front : (n size : ℕ) → n ≤ size → n ≡ length {A = ℕ} (take n (replicate size 0))
front n size l = sym (length-take-le n (replicate size 0) (omega (arith, length-replicate {A = ℕ} size 0)))

room : (x n size : ℕ) → n ≡ x → n ≤ size → x ≤ length {A = ℕ} (take n (replicate size 0))
room x n size e l = omega (arith, e, front n size l)

pub shape_holds-requires : goal.shape_holds-requires
shape_holds-requires c = record { nodes_in_bounds = room _ c.count-count.result 512 c.count-count.ensures c.if-count-le512.true }

pub slice_bounds-marks-end : goal.slice_bounds-marks-end
slice_bounds-marks-end c = omega (arith, count_limit c.args.sheet.now.sheet.now 6, c.count-count.ensures)

pub shape_holds-requires-2 : goal.shape_holds-requires-2
shape_holds-requires-2 c = let args = c.args in
    let count-opened-here = c.count-count.ensures in
    record { nodes_in_bounds = room _ c.count-count.result 4096 count-opened-here (omega (arith, count_limit args.sheet.now.sheet.now 6, count-opened-here)) }

pub slice_bounds-shape_holds-end : goal.slice_bounds-shape_holds-end
slice_bounds-shape_holds-end c = front c.count-count.result 512 c.if-count-le512.true

pub slice_bounds-shape_holds-end-2 : goal.slice_bounds-shape_holds-end-2
slice_bounds-shape_holds-end-2 c = front c.count-count.result 4096 (omega (arith, count_limit c.args.sheet.now.sheet.now 6, c.count-count.ensures))
