use mathlib.Core.Path.{refl, sym, ap, ◌∙◌}
use Rattle.machine_events.specs.declared.Event.TheVariants.{Outside}
use Rattle.machine.specs.State.{telegram_in}
use Rattle.machine_events.specs.Event.{event_as}
use Rattle.engine_valid_events.proofs.Laws.{read_so_lem, read_none}
use Rattle.engine_valid_events.proofs.outside.Goals as goal

pub returns-then-outside_formed : goal.returns-then-outside_formed
unfolding event_as telegram_in
returns-then-outside_formed c = read_so_lem _ _ _ _ (sym c.outside_formed.ensures ∙ c.if-outside_formed.true) (ap Outside c.telegram_in.ensures)

pub returns : goal.returns
returns c = read_none _ _ _ _ (sym c.outside_formed.ensures ∙ c.if-outside_formed.false) refl
