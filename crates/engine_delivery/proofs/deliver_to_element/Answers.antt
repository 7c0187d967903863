use mathlib.Core.Path.{sym, ap, ◌∙◌}
use lib.IntN.{pos}
use lib.Signed.{le_z}
use Rattle.machine_events.proofs.Called.{has_chart}
use Rattle.machine_events.proofs.Received.{receiver-number, port-number, name-number, receiver-bound, reaction_called, as_delivered, none-delivered}
use Rattle.engine_rows.proofs.Laws.{given}
use Rattle.engine_delivery.proofs.Laws.{number_read, data_read}
use Rattle.engine_delivery.proofs.deliver_to_element.Goals as goal

pub number-e-requires : goal.number-e-requires
number-e-requires c = ap (le_z (pos 0)) (given c.args.t.receiver c.struct_told-1.given.1.0.1) ∙ receiver-number _ c.args.yard.now.passed _ c.requires.0.fits

pub chart_number-n-requires : goal.chart_number-n-requires
chart_number-n-requires c = let word = c.args.t.receiver in
    let receiver = number_read word c.struct_told-1.given.1.0.1 _ c.number-e.ensures in
    receiver-bound _ c.args.yard.now.passed _ c.requires.0.fits c.requires.0.class c.requires.1 _ receiver

pub prove-unreachable-requires : goal.prove-unreachable-requires
prove-unreachable-requires c = absurd
    (let word = c.args.t.receiver in
    let receiver = number_read word c.struct_told-1.given.1.0.1 _ c.number-e.ensures in
    let bound = receiver-bound _ c.args.yard.now.passed _ c.requires.0.fits c.requires.0.class c.requires.1 _ receiver in
    let none = sym c.record.ensures ∙ c.in_default.is in
    has_chart _ c.args.yard.now.passed _ bound (sym c.chart_number-n.ensures ∙ none))

pub number-requires : goal.number-requires
number-requires c = let read = given c.args.t.port c.struct_told-2-1.given.1.1.0.1 in
    ap (le_z (pos 0)) read ∙ port-number _ c.args.yard.now.passed _ c.requires.0.fits c.requires.0.class

pub number-requires-2 : goal.number-requires-2
number-requires-2 c = let read = given c.args.t.name c.struct_told-3-1.given.1.1.1.0.1 in
    ap (le_z (pos 0)) read ∙ name-number _ c.args.yard.now.passed _ c.requires.0.fits c.requires.0.class

pub event_body-requires : goal.event_body-requires
event_body-requires c = let t = c.args.t in
    let told = c.struct_told-then-j-c-1.given.1 in
    let number = c.number-e.ensures in
    let receiver = number_read t.receiver told.0.1 _ number in
    let port = number_read t.port told.1.0.1 _ c.number.ensures in
    let name = number_read t.name told.1.1.0.1 _ c.number-2.ensures in
    let words = told.1.1.1 in
    let brought = data_read t words.0.1 words.1.0.1 words.1.1.0.1 words.1.1.1.0.1 in
    let is = c.in-Some.is in
    let there = sym c.record.ensures ∙ is in
    let bound = sym c.chart_number-n.ensures ∙ there in
    let found = c.reaction_on-j.ensures in
    let ok = c.args.yard.now.passed in
    let called = reaction_called _ ok t c.requires.0.fits c.requires.0.class c.requires.1 _ receiver _ bound _ _ _ port name found c.if-j-c.true _ brought in
    (record { state = c.requires.0.beside.state; chart = record { there = there; bound = bound }; called = called }, c.requires.0.beside.long)

pub returns-then-j-c : goal.returns-then-j-c
returns-then-j-c c = let t = c.args.t in
    let told = c.struct_told-then-j-c-1.given.1 in
    let number = c.number-e.ensures in
    let receiver = number_read t.receiver told.0.1 _ number in
    let port = number_read t.port told.1.0.1 _ c.number.ensures in
    let name = number_read t.name told.1.1.0.1 _ c.number-2.ensures in
    let words = told.1.1.1 in
    let brought = data_read t words.0.1 words.1.0.1 words.1.1.0.1 words.1.1.1.0.1 in
    let is = c.in-Some.is in
    let there = sym c.record.ensures ∙ is in
    let bound = sym c.chart_number-n.ensures ∙ there in
    let found = c.reaction_on-j.ensures in
    let below = c.if-j-c.true in
    let ok = c.args.yard.now.passed in
    as_delivered _ ok t c.requires.0.fits c.requires.0.class c.requires.1 _ receiver _ bound _ _ _ port name found below _ brought _ _ _ c.event_body.ensures

pub run_panic_body-requires : goal.run_panic_body-requires
run_panic_body-requires c = let is = c.in-Some.is in
    let there = sym c.record.ensures ∙ is in
    let bound = sym c.chart_number-n.ensures ∙ there in
    (c.requires.0.beside, record { there = there; bound = bound })

pub returns : goal.returns
returns c = let t = c.args.t in
    let told = c.struct_told-3-1.given.1 in
    let number = c.number-e.ensures in
    let receiver = number_read t.receiver told.0.1 _ number in
    let port = number_read t.port told.1.0.1 _ c.number.ensures in
    let name = number_read t.name told.1.1.0.1 _ c.number-2.ensures in
    let is = c.in-Some.is in
    let there = sym c.record.ensures ∙ is in
    let bound = sym c.chart_number-n.ensures ∙ there in
    let found = c.reaction_on-j.ensures in
    let ok = c.args.yard.now.passed in
    none-delivered _ ok t c.requires.0.fits c.requires.0.class c.requires.1 _ receiver _ bound _ _ _ port name found c.if-j-c.false _ _ _ c.run_panic_body.ensures
