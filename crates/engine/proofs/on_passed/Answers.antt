use mathlib.Core.Path.{sym, ap, ◌∙◌}
use native.Mathlib.Omega.{arith}
use lib.ListN.{length}
use borrow.Author.Tests.{eqb-true}
use Rattle.machine_passed.proofs.Records.{cells_limit}
use Rattle.machine_events.specs.Sought.{receiver_bound}
use Rattle.machine_events.proofs.Apart.{receiver-bound}
use Rattle.engine_queue.proofs.Laws.{laid}
use Rattle.engine_lengths.proofs.Laws.{by_cells}
use Rattle.engine.proofs.Calls.{old-long, result_long, other_content, malformed_event, happened_event, copy_plays}
use Rattle.engine.proofs.on_passed.Goals as goal

pub is_state-requires : goal.is_state-requires
is_state-requires c = let e = c.fill.ensures.0 in omega (arith, cells_limit _ c.requires)

pub returns-then-not-is_state : goal.returns-then-not-is_state
returns-then-not-is_state c = old-long _ _ _ _ c.requires (by_cells _ _ _ _ _ c.fill.ensures.0 c.is_state.ensures (c.if-not-is_state.true)) _ c.answered.ensures

pub is_state-requires-2 : goal.is_state-requires-2
is_state-requires-2 c = let e = c.fill.ensures.0 in omega (arith, cells_limit _ c.requires)

pub returns-then-not-is_state-2 : goal.returns-then-not-is_state-2
returns-then-not-is_state-2 c = result_long _ _ _ _ c.requires (by_cells _ _ _ _ _ c.fill.ensures.0 c.is_state-2.ensures (c.if-not-is_state-2.true)) _ c.answered-then-not-is_state-2.ensures

pub content_fits-requires : goal.content_fits-requires
content_fits-requires c = eqb-true _ _ (by_cells _ _ _ _ _ c.fill.ensures.0 c.is_state.ensures (c.if-not-is_state.false))

pub returns-then-not-content_fits : goal.returns-then-not-content_fits
returns-then-not-content_fits c = let old = eqb-true _ _ (by_cells _ _ _ _ _ c.fill.ensures.0 c.is_state.ensures (c.if-not-is_state.false)) in
    let new = eqb-true _ _ (by_cells _ _ _ _ _ c.fill.ensures.0 c.is_state-2.ensures (c.if-not-is_state-2.false)) in
    other_content _ _ _ _ c.requires old new _ c.answered-then-not-content_fits.ensures (sym c.content_fits.ensures ∙ c.if-not-content_fits.true)

pub returns-then-is_malformed : goal.returns-then-is_malformed
returns-then-is_malformed c = let old = eqb-true _ _ (by_cells _ _ _ _ _ c.fill.ensures.0 c.is_state.ensures (c.if-not-is_state.false)) in
    let new = eqb-true _ _ (by_cells _ _ _ _ _ c.fill.ensures.0 c.is_state-2.ensures (c.if-not-is_state-2.false)) in
    let fit = sym c.content_fits.ensures ∙ c.if-not-content_fits.false in
    malformed_event _ _ _ _ c.requires old new fit _ c.event_of-e.ensures (sym c.is_malformed.ensures ∙ c.if-is_malformed.true) _ c.answered-then-is_malformed.ensures

pub copy-requires : goal.copy-requires
copy-requires c = let old = eqb-true _ _ (by_cells _ _ _ _ _ c.fill.ensures.0 c.is_state.ensures (c.if-not-is_state.false)) in
    let new = eqb-true _ _ (by_cells _ _ _ _ _ c.fill.ensures.0 c.is_state-2.ensures (c.if-not-is_state-2.false)) in
    new ∙ sym old

pub sought-j-requires : goal.sought-j-requires
sought-j-requires c = let old = eqb-true _ _ (by_cells _ _ _ _ _ c.fill.ensures.0 c.is_state.ensures (c.if-not-is_state.false)) in
    let new = eqb-true _ _ (by_cells _ _ _ _ _ c.fill.ensures.0 c.is_state-2.ensures (c.if-not-is_state-2.false)) in
    let fit = sym c.content_fits.ensures ∙ c.if-not-content_fits.false in
    laid _ _ (copy_plays _ _ c.args.res.now c.args.ev.now c.requires old new fit _ c.copy.ensures)

pub happened-requires : goal.happened-requires
happened-requires c = let old = eqb-true _ _ (by_cells _ _ _ _ _ c.fill.ensures.0 c.is_state.ensures (c.if-not-is_state.false)) in
    let new = eqb-true _ _ (by_cells _ _ _ _ _ c.fill.ensures.0 c.is_state-2.ensures (c.if-not-is_state-2.false)) in
    let fit = sym c.content_fits.ensures ∙ c.if-not-content_fits.false in
    let copied = c.copy.ensures in
    let plays = copy_plays _ _ c.args.res.now c.args.ev.now c.requires old new fit _ copied in
    record {
      state = plays;
      bound = ap (receiver_bound c.args.sheet.now.sheet.now) c.event_of-e.ensures ∙ receiver-bound c.args.sheet.now.sheet.now c.args.ev.now;
      sought = c.sought-j.ensures _ plays.whole;
      long = ap length (sym copied);
      copied = λ u. sym copied;
    }

pub returns : goal.returns
returns c = let old = eqb-true _ _ (by_cells _ _ _ _ _ c.fill.ensures.0 c.is_state.ensures (c.if-not-is_state.false)) in
    let new = eqb-true _ _ (by_cells _ _ _ _ _ c.fill.ensures.0 c.is_state-2.ensures (c.if-not-is_state-2.false)) in
    let fit = sym c.content_fits.ensures ∙ c.if-not-content_fits.false in
    happened_event _ _ _ _ c.requires old new fit _ c.event_of-e.ensures (sym c.is_malformed.ensures ∙ c.if-is_malformed.false) _ c.copy.ensures _ _ c.happened.ensures
