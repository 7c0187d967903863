use mathlib.Core.Path.{sym, ◌∙◌}
use Rattle.machine_events.proofs.Called.{has_chart}
use Rattle.engine_delivery.proofs.panicked.Goals as goal

pub chart_number-n-requires : goal.chart_number-n-requires
chart_number-n-requires c = c.requires.1

pub prove-unreachable-requires : goal.prove-unreachable-requires
prove-unreachable-requires c = absurd
    (has_chart _ c.args.yard.now.passed _ c.requires.1 (sym c.chart_number-n.ensures ∙ sym c.record.ensures ∙ c.in_default.is))

pub run_panic_body-requires : goal.run_panic_body-requires
run_panic_body-requires c = let there = sym c.record.ensures ∙ c.in-Some.is in
    (c.requires.0, record { there = there; bound = sym c.chart_number-n.ensures ∙ there })

pub returns : goal.returns
returns c = c.run_panic_body.ensures
