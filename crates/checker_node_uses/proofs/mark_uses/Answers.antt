use mathlib.Core.Path.{refl}
use native.Mathlib.Omega.{arith}
use Rattle.checker_node_uses.proofs.mark_uses.Goals as goal

pub returns-then-marks-count : goal.returns-then-marks-count
returns-then-marks-count c = let few = c.if-marks-count.true in
    let nodes = rw c.new-opened.ensures.0 at c.count.ensures in
    (omega (arith, nodes), refl)

pub used_once-requires : goal.used_once-requires
used_once-requires c = let enough = c.if-marks-count.false in omega (arith, c.count.ensures)

pub returns : goal.returns
returns c = let enough = c.if-marks-count.false in
    let nodes = rw c.new-opened.ensures.0 at c.count.ensures in
    (omega (arith, nodes), rw c.new-opened.ensures.0 at c.used_once.ensures)
