use native.Mathlib.Omega.{arith}
use Rattle.sheet.proofs.All.{first_fails_lem, rest_fails, first_holds}
use Rattle.machine.specs.State.{word_of}
use Rattle.machine.specs.Valid.{name_fits}
use Rattle.sheet_types.proofs.Laws.{no, so}
use Rattle.engine_valid_words.proofs.Laws.{below-from}
use Rattle.engine_valid_values.proofs.Laws.{below_same}
use Rattle.engine_valid_names.proofs.Laws.{name-class, name_data_lem}
use mathlib.Core.Path.{ap}
use mathlib.Core.Bool.{not}
use Rattle.engine_valid_names.proofs.name_fits.Goals as goal

pub returns-then-not-below_at : goal.returns-then-not-below_at
unfolding name_fits
returns-then-not-below_at c = first_fails_lem _ _ (no (below_same _ _ _ _ c.below_at.ensures c.count.ensures) (ap not c.if-not-below_at.true))

pub number_at-n-requires : goal.number_at-n-requires
number_at-n-requires c = (omega arith, below-from _ _ (so c.below_at.ensures (ap not c.if-not-below_at.false)))

pub returns-then-not-has_class : goal.returns-then-not-has_class
unfolding name_fits
returns-then-not-has_class c = let start = c.args in
    let name = word_of start.st.now start.at in
    rest_fails _ _ (first_fails_lem _ _ (no (name-class _ _ name _ c.number_at-n.ensures _ c.has_class.ensures) (ap not c.if-not-has_class.true)))

pub returns : goal.returns
unfolding name_fits
returns c = let name = word_of c.args.st.now c.args.at in
    let count = c.count.ensures in
    let number = c.number_at-n.ensures in
    first_holds _ _ _ (so (below_same _ _ _ _ c.below_at.ensures count) (ap not c.if-not-below_at.false))
    (first_holds _ _ _ (so (name-class _ _ name _ number _ c.has_class.ensures) (ap not c.if-not-has_class.false))
    (name_data_lem _ _ name _ number _ _ c.name_range.ensures.0 c.data_fit.ensures))
