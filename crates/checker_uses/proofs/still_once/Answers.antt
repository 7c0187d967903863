use mathlib.Core.Path.{sym}
use borrow.Author.Tests.{eq-eqb, ne_eqb}
use Rattle.sheet.proofs.All.{true-and, false-and}
use Rattle.checker_uses.proofs.still_once.Goals as goal

pub returns-then-used-eq1 : goal.returns-then-used-eq1
returns-then-used-eq1 c = sym (true-and _ _ (eq-eqb _ _ c.if-used-eq1.true))

pub returns : goal.returns
returns c = sym (false-and _ _ (ne_eqb _ _ c.if-used-eq1.false))
