use borrow.Author.Tests.{lt-ltb, le-ltb}
use Rattle.sheet.proofs.All.{first_fails_lem, first_holds}
use Rattle.checker_nodes.proofs.variable_fits.Goals as goal

pub returns-then-variables_at-r : goal.returns-then-variables_at-r
returns-then-variables_at-r c = first_fails_lem _ _ (le-ltb _ _ (rw c.variables_at.ensures at c.if-variables_at-r.true))

pub returns : goal.returns
returns c = first_holds _ _ _ (lt-ltb _ _ (rw c.variables_at.ensures at c.if-variables_at-r.false)) c.zero_from.ensures
