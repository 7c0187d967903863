use native.Mathlib.Omega.{arith}
use Rattle.checker_pass.proofs.Marking.{marked-outside, marked_node}
use Rattle.checker_marks.proofs.mark.Goals as goal

pub returns-then-top-n : goal.returns-then-top-n
returns-then-top-n c = marked-outside _ _ _ _ c.if-top-n.true

pub returns : goal.returns
returns c = marked_node _ _ _ _ _ c.if-top-n.false (omega arith) c.with_home.ensures
