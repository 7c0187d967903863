use native.Mathlib.Omega.{arith}
use mathlib.Core.Path.{sym, ap, ◌∙◌}
use Rattle.sheet.proofs.All.{first_fails_lem, rest_fails, first_holds}
use Rattle.machine.specs.Values.{is_bound, chart_of}
use Rattle.machine.specs.State.{telegram_in}
use Rattle.machine.specs.Valid.{internal_fits}
use Rattle.sheet_types.proofs.Laws.{no, so}
use Rattle.engine_valid_words.proofs.Laws.{read_back}
use Rattle.engine_valid_names.proofs.Laws.{name_from, chart_awaits, nothing_awaits}
use Rattle.engine_valid_telegrams.proofs.Laws.{name_of}
use mathlib.Core.Bool.{not}
use Rattle.engine_valid_telegrams.proofs.internal_fits.Goals as goal

pub returns-then-not-same : goal.returns-then-not-same
unfolding internal_fits telegram_in
returns-then-not-same c = let sender = c.word-sender.ensures in
    let receiver = c.word-receiver.ensures in
    first_fails_lem _ _ (no (rw (read_back _ _ sender.0 sender.1, read_back _ _ receiver.0 receiver.1) at c.same.ensures) (ap not c.if-not-same.true))

pub returns-then-not-is_bound : goal.returns-then-not-is_bound
unfolding internal_fits telegram_in
returns-then-not-is_bound c = rest_fails _ _ (first_fails_lem _ _ (no (c.is_bound.ensures ∙ ap (is_bound _) c.number_at-e.ensures) (ap not c.if-not-is_bound.true)))

pub returns-then-not-name_fits : goal.returns-then-not-name_fits
unfolding internal_fits telegram_in
returns-then-not-name_fits c = rest_fails _ _ (rest_fails _ _ (first_fails_lem _ _ (no (c.name_fits.ensures ∙ name_of _ _ _ _) (ap not c.if-not-name_fits.true))))

pub chart-requires : goal.chart-requires
chart-requires c = so c.is_bound.ensures (ap not c.if-not-is_bound.false)

pub returns-in_default : goal.returns-in_default
unfolding internal_fits telegram_in
returns-in_default c = let number = c.number_at-e.ensures in
    rest_fails _ _ (rest_fails _ _ (rest_fails _ _ (nothing_awaits _ _ _ (ap (chart_of _) (sym number) ∙ sym c.chart.ensures ∙ c.in_default.is))))

pub overflow_add-at-4 : goal.overflow_add-at-4
overflow_add-at-4 c = omega arith

pub number_at-requires : goal.number_at-requires
number_at-requires c = (omega arith, name_from _ _ _ _ (so c.name_fits.ensures (ap not c.if-not-name_fits.false)))

pub returns : goal.returns
unfolding internal_fits telegram_in
returns c = let number = c.number_at-e.ensures in
    let receiver = c.word-receiver.ensures in
    let sender = c.word-sender.ensures in
    let chart = ap (chart_of _) (sym number) ∙ sym c.chart.ensures ∙ c.in-Some.is in
    first_holds _ _ _ (so (rw (read_back _ _ sender.0 sender.1, read_back _ _ receiver.0 receiver.1) at c.same.ensures) (ap not c.if-not-same.false))
    (first_holds _ _ _ (so (c.is_bound.ensures ∙ ap (is_bound _) number) (ap not c.if-not-is_bound.false))
    (first_holds _ _ _ (so (c.name_fits.ensures ∙ name_of _ _ _ _) (ap not c.if-not-name_fits.false))
    (chart_awaits _ _ _ _ _ _ chart c.number_at.ensures c.has_reaction.ensures)))
