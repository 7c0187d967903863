use borrow.Author.Tests.{eq-eqb, ne_eqb}
use Rattle.sheet.proofs.All.{first_fails_lem, rest_fails, first_holds}
use Rattle.checker_nodes.proofs.internal_fits.Goals as goal

pub returns-then-r-ne0 : goal.returns-then-r-ne0
returns-then-r-ne0 c = first_fails_lem _ _ (ne_eqb _ _ c.if-r-ne0.true)

pub returns-then-r-ne0-2 : goal.returns-then-r-ne0-2
returns-then-r-ne0-2 c = rest_fails _ _ (first_fails_lem _ _ (ne_eqb _ _ c.if-r-ne0-2.true))

pub returns : goal.returns
returns c = first_holds _ _ _ (eq-eqb _ _ c.if-r-ne0.false) (first_holds _ _ _ (eq-eqb _ _ c.if-r-ne0-2.false) c.send_fits.ensures)
