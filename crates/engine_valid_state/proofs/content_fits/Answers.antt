use native.Mathlib.Omega.{arith}
use lib.ListN.{length}
use Rattle.sheet.proofs.All.{first_fails_lem, rest_fails, first_holds}
use Rattle.machine.specs.Valid.{content_fits}
use Rattle.sheet_types.proofs.Laws.{no, so}
use Rattle.machine_passed.proofs.Records.{components_limit}
use Rattle.engine_store.proofs.Lies.{at_least}
use Rattle.engine_valid_state.proofs.Laws.{head_from, head-waits, ends_fit}
use mathlib.Core.Path.{ap}
use mathlib.Core.Bool.{not}
use Rattle.engine_valid_state.proofs.content_fits.Goals as goal

pub head_fits-requires : goal.head_fits-requires
head_fits-requires c = omega (arith, at_least c.args.yard.now.sheet.sheet.now (length c.args.st.now) c.requires)

pub returns-then-not-head_fits : goal.returns-then-not-head_fits
unfolding content_fits
returns-then-not-head_fits c = first_fails_lem _ _ (no c.head_fits.ensures (ap not c.if-not-head_fits.true))

pub returns-then-not-cells_fit : goal.returns-then-not-cells_fit
unfolding content_fits
returns-then-not-cells_fit c = rest_fails _ _ (first_fails_lem _ _ (no c.cells_fit.ensures (ap not c.if-not-cells_fit.true)))

pub number_at-n-requires : goal.number_at-n-requires
number_at-n-requires c = let head = so c.head_fits.ensures (ap not c.if-not-head_fits.false) in
    (omega (arith, at_least c.args.yard.now.sheet.sheet.now (length c.args.st.now) c.requires), head_from _ head)

pub waiting_fit-requires : goal.waiting_fit-requires
waiting_fit-requires c = let head = so c.head_fits.ensures (ap not c.if-not-head_fits.false) in
    (c.requires, head-waits _ _ _ c.requires head c.number_at-n.ensures)

pub returns-then-not-waiting_fit : goal.returns-then-not-waiting_fit
unfolding content_fits
returns-then-not-waiting_fit c = rest_fails _ _ (rest_fails _ _ (first_fails_lem _ _ (no c.waiting_fit.ensures (ap not c.if-not-waiting_fit.true))))

pub unused_zero-requires : goal.unused_zero-requires
unused_zero-requires c = let head = so c.head_fits.ensures (ap not c.if-not-head_fits.false) in
    head-waits _ _ _ c.requires head c.number_at-n.ensures

pub returns-then-not-unused_zero : goal.returns-then-not-unused_zero
unfolding content_fits
returns-then-not-unused_zero c = rest_fails _ _ (rest_fails _ _ (rest_fails _ _ (first_fails_lem _ _ (no (c.unused_zero.ensures _ c.requires) (ap not c.if-not-unused_zero.true)))))

pub classes_fit-requires : goal.classes_fit-requires
classes_fit-requires c = let head = so c.head_fits.ensures (ap not c.if-not-head_fits.false) in
    let waiting = so c.waiting_fit.ensures (ap not c.if-not-waiting_fit.false) in
    let waits = head-waits _ _ _ c.requires head c.number_at-n.ensures in
    (waits, ends_fit _ _ c.requires _ waits (components_limit _ c.args.yard.now.passed) waiting)

pub returns : goal.returns
unfolding content_fits
returns c = let whole = c.requires in
    first_holds _ _ _ (so c.head_fits.ensures (ap not c.if-not-head_fits.false))
    (first_holds _ _ _ (so c.cells_fit.ensures (ap not c.if-not-cells_fit.false))
    (first_holds _ _ _ (so c.waiting_fit.ensures (ap not c.if-not-waiting_fit.false))
    (first_holds _ _ _ (so (c.unused_zero.ensures _ whole) (ap not c.if-not-unused_zero.false)) (c.classes_fit.ensures _ whole))))
