use borrow.Author.Tests.{lt-ltb, le-ltb, le-leb, lt-leb}
use Rattle.sheet.proofs.All.{first_fails_lem, rest_fails, first_holds}
use Rattle.sheet_rules.specs.Shape.{enumerated_shape}
use Rattle.checker_declarations.proofs.enumerated_fits.Goals as goal

pub returns-then-r-lt1 : goal.returns-then-r-lt1
unfolding enumerated_shape
returns-then-r-lt1 c = first_fails_lem _ _ (lt-leb _ _ c.if-r-lt1.true)

pub returns-then-r-gt256 : goal.returns-then-r-gt256
unfolding enumerated_shape
returns-then-r-gt256 c = rest_fails _ _ (first_fails_lem _ _ (lt-leb _ _ c.if-r-gt256.true))

pub returns-then-r : goal.returns-then-r
unfolding enumerated_shape
returns-then-r c = rest_fails _ _ (rest_fails _ _ (first_fails_lem _ _ (le-ltb _ _ c.if-r.true)))

pub returns : goal.returns
unfolding enumerated_shape
returns c = first_holds _ _ _ (le-leb _ _ c.if-r-lt1.false) (first_holds _ _ _ (le-leb _ _ c.if-r-gt256.false) (first_holds _ _ _ (lt-ltb _ _ c.if-r.false) c.zero_from.ensures))
