use mathlib.Core.Path.{sym, ap, ◌∙◌}
use Rattle.machine.specs.Run.{World}
use Rattle.machine_passed.proofs.Charts.{chart-element}
use Rattle.machine_events.proofs.Called.{has_chart, initial-called, initial-runs}
use Rattle.engine_starts.proofs.initial.Goals as goal

pub chart_number-n-requires : goal.chart_number-n-requires
chart_number-n-requires c = c.requires.1

pub prove-unreachable-requires : goal.prove-unreachable-requires
prove-unreachable-requires c = has_chart _ c.args.yard.now.passed _ c.requires.1 (sym c.chart_number-n.ensures ∙ sym c.record.ensures ∙ c.in_default.is)

pub run_body-requires : goal.run_body-requires
run_body-requires c = let there = sym c.record.ensures ∙ c.in-Some.is in
    let bound = sym c.chart_number-n.ensures ∙ there in
    let x = chart-element _ _ _ bound in
    let called = initial-called _ c.args.yard.now.passed _ x.0 _ x.1 _ c.with_role-j.ensures in
    (record { state = c.requires.0; chart = record { there = there; bound = bound }; called = called }, c.requires.2)

pub returns : goal.returns
returns c = let there = sym c.record.ensures ∙ c.in-Some.is in
    let x = chart-element _ _ _ (sym c.chart_number-n.ensures ∙ there) in
    let ok = c.args.yard.now.passed in
    let e = initial-runs _ ok _ x.0 _ x.1 _ c.with_role-j.ensures _ in
    let ran = c.run_body.ensures in
    (ran.0 ∙ ap (λ (w : World). w.ran) (sym e), ran.1 ∙ ap (λ (w : World). w.st) (sym e))
