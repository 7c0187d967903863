use Rattle.machine_events.proofs.Received.{panic_asked, as_panicking}
use Rattle.engine_delivery.proofs.run_panic_body.Goals as goal

pub event_body-requires : goal.event_body-requires
event_body-requires c = let called = panic_asked _ c.args.yard.now.passed _ _ c.requires.1.bound _ c.with_role-j.ensures in
    (record { state = c.requires.0.state; chart = c.requires.1; called = called }, c.requires.0.long)

pub returns : goal.returns
returns c = as_panicking _ c.args.yard.now.passed _ _ c.requires.1.bound _ c.with_role-j.ensures _ _ _ c.event_body.ensures
