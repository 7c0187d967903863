use native.Mathlib.Omega.{arith}
use mathlib.Core.Path.{◌∙◌, ap}
use Rattle.sheet.proofs.All.{first_fails_lem, first_holds}
use Rattle.sheet_types.proofs.Laws.{no, so}
use Rattle.engine_valid_names.proofs.Laws.{name_from, chart_awaits}
use Rattle.engine_valid_cells.proofs.Laws.{timer_below, timer_zeros, not_in_period, clock-name, clock_data}
use mathlib.Core.Bool.{not}
use Rattle.engine_valid_cells.proofs.running_clock.Goals as goal

pub returns-then-not-at_least : goal.returns-then-not-at_least
returns-then-not-at_least c e p = let z = c.word-value.ensures in
    let v = c.word-period.ensures in
    timer_below _ _ _ _ _ _ _ _ z.0 z.1 v.0 v.1 c.at_least.ensures c.if-t-eq4.true (ap not c.if-not-at_least.true)

pub returns-then-t-eq4 : goal.returns-then-t-eq4
returns-then-t-eq4 c e p = let z = c.word-value.ensures in
    let v = c.word-period.ensures in
    timer_zeros _ _ _ _ _ _ _ _ z.0 z.1 v.0 v.1 c.at_least.ensures _ c.if-t-eq4.true (ap not c.if-not-at_least.false) c.zero_words.ensures

pub returns-then-not-value_fits : goal.returns-then-not-value_fits
returns-then-not-value_fits c e p = let z = c.word-value.ensures in
    let v = c.word-period.ensures in
    not_in_period _ _ _ _ _ _ _ _ z.0 z.1 v.0 v.1 c.value_fits.ensures c.if-t-eq4.false (ap not c.if-not-value_fits.true)

pub returns-then-not-name_fits : goal.returns-then-not-name_fits
returns-then-not-name_fits c e p = let z = c.word-value.ensures in
    let v = c.word-period.ensures in
    clock-name _ _ _ _ _ _ _ _ z.0 z.1 v.0 v.1 c.value_fits.ensures _ c.if-t-eq4.false (ap not c.if-not-value_fits.false)
    (first_fails_lem _ _ (no (c.name_fits.ensures ∙ clock_data _ _ _ _) (ap not c.if-not-name_fits.true)))

pub number_at-requires : goal.number_at-requires
number_at-requires c = (omega arith, name_from _ _ _ _ (so c.name_fits.ensures (ap not c.if-not-name_fits.false)))

pub returns : goal.returns
returns c e p = let z = c.word-value.ensures in
    let v = c.word-period.ensures in
    let awaits = chart_awaits _ e _ _ _ _ p c.number_at.ensures c.has_reaction.ensures in
    clock-name _ _ _ _ _ _ _ _ z.0 z.1 v.0 v.1 c.value_fits.ensures _ c.if-t-eq4.false (ap not c.if-not-value_fits.false)
    (first_holds _ _ _ (so (c.name_fits.ensures ∙ clock_data _ _ _ _) (ap not c.if-not-name_fits.false)) awaits)
