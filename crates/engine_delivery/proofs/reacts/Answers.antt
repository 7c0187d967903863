use mathlib.Core.Path.{sym, ap, ◌∙◌}
use lib.IntN.{pos}
use lib.Signed.{le_z}
use Rattle.machine_events.proofs.Called.{has_chart}
use Rattle.machine_events.proofs.Received.{receiver-number, inner_name, inner_bound, inner_asked, as_reacting}
use Rattle.engine_rows.proofs.Laws.{given}
use Rattle.engine_delivery.proofs.Laws.{number_read, data_read}
use Rattle.engine_delivery.proofs.reacts.Goals as goal

pub number-e-requires : goal.number-e-requires
number-e-requires c = ap (le_z (pos 0)) (given c.args.t.receiver c.struct_told-1.given.1.0.1) ∙ receiver-number _ c.args.yard.now.passed _ c.requires.fits

pub chart_number-n-requires : goal.chart_number-n-requires
chart_number-n-requires c = let word = c.args.t.receiver in
    let receiver = number_read word c.struct_told-1.given.1.0.1 _ c.number-e.ensures in
    inner_bound _ c.args.yard.now.passed _ c.requires.fits c.requires.class _ receiver

pub prove-unreachable-requires : goal.prove-unreachable-requires
prove-unreachable-requires c = absurd
    (let word = c.args.t.receiver in
    let receiver = number_read word c.struct_told-1.given.1.0.1 _ c.number-e.ensures in
    let bound = inner_bound _ c.args.yard.now.passed _ c.requires.fits c.requires.class _ receiver in
    let none = sym c.record.ensures ∙ c.in_default.is in
    has_chart _ c.args.yard.now.passed _ bound (sym c.chart_number-n.ensures ∙ none))

pub number-requires : goal.number-requires
number-requires c = let read = given c.args.t.name c.struct_told-2-1.given.1.1.1.0.1 in
    ap (le_z (pos 0)) read ∙ inner_name _ c.args.yard.now.passed _ c.requires.fits c.requires.class

pub event_body-requires : goal.event_body-requires
event_body-requires c = let t = c.args.t in
    let told = c.struct_told-3-1.given.1 in
    let number = c.number-e.ensures in
    let receiver = number_read t.receiver told.0.1 _ number in
    let name = number_read t.name told.1.1.0.1 _ c.number.ensures in
    let words = told.1.1.1 in
    let brought = data_read t words.0.1 words.1.0.1 words.1.1.0.1 words.1.1.1.0.1 in
    let is = c.in-Some.is in
    let there = sym c.record.ensures ∙ is in
    let bound = sym c.chart_number-n.ensures ∙ there in
    let found = c.reaction_to-j.ensures in
    let called = inner_asked _ c.args.yard.now.passed t c.requires.fits c.requires.class _ receiver _ bound _ _ name found _ brought in
    (record { state = c.requires.beside.state; chart = record { there = there; bound = bound }; called = called }, c.requires.beside.long)

pub returns : goal.returns
returns c = let t = c.args.t in
    let told = c.struct_told-3-1.given.1 in
    let number = c.number-e.ensures in
    let receiver = number_read t.receiver told.0.1 _ number in
    let name = number_read t.name told.1.1.0.1 _ c.number.ensures in
    let words = told.1.1.1 in
    let brought = data_read t words.0.1 words.1.0.1 words.1.1.0.1 words.1.1.1.0.1 in
    let is = c.in-Some.is in
    let there = sym c.record.ensures ∙ is in
    let bound = sym c.chart_number-n.ensures ∙ there in
    let found = c.reaction_to-j.ensures in
    as_reacting _ c.args.yard.now.passed t c.requires.fits c.requires.class _ receiver _ bound _ _ name found _ brought _ _ _ c.event_body.ensures
