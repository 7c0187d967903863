use borrow.Author.Tests.{le-leb, lt-leb}
use Rattle.sheet.proofs.All.{first_fails_lem, rest_fails, first_holds}
use Rattle.sheet_rules.specs.Shape.{head_shape}
use Rattle.checker_declarations.proofs.head_fits.Goals as goal

pub returns-then-r-gt64 : goal.returns-then-r-gt64
unfolding head_shape
returns-then-r-gt64 c = first_fails_lem _ _ (lt-leb _ _ c.if-r-gt64.true)

pub returns-then-r-lt2 : goal.returns-then-r-lt2
unfolding head_shape
returns-then-r-lt2 c = rest_fails _ _ (first_fails_lem _ _ (lt-leb _ _ c.if-r-lt2.true))

pub returns-then-r : goal.returns-then-r
unfolding head_shape
returns-then-r c = rest_fails _ _ (rest_fails _ _ (first_fails_lem _ _ (lt-leb _ _ c.if-r.true)))

pub returns-then-r-lt2-2 : goal.returns-then-r-lt2-2
unfolding head_shape
returns-then-r-lt2-2 c = rest_fails _ _ (rest_fails _ _ (rest_fails _ _ (first_fails_lem _ _ (lt-leb _ _ c.if-r-lt2-2.true))))

pub returns-then-r-gt64-2 : goal.returns-then-r-gt64-2
unfolding head_shape
returns-then-r-gt64-2 c = rest_fails _ _ (rest_fails _ _ (rest_fails _ _ (rest_fails _ _ (first_fails_lem _ _ (lt-leb _ _ c.if-r-gt64-2.true)))))

pub returns : goal.returns
unfolding head_shape
returns c = first_holds _ _ _ (le-leb _ _ c.if-r-gt64.false) (first_holds _ _ _ (le-leb _ _ c.if-r-lt2.false) (first_holds _ _ _ (le-leb _ _ c.if-r.false) (first_holds _ _ _ (le-leb _ _ c.if-r-lt2-2.false) (first_holds _ _ _ (le-leb _ _ c.if-r-gt64-2.false) c.zero_from.ensures))))
