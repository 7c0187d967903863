use mathlib.Core.Path.{refl, sym, ◌∙◌}
use Rattle.machine.specs.Kinds as kind
use Rattle.machine.specs.Play.{well_formed}
use Rattle.machine_events.specs.Event.{event_as}
use Rattle.engine_valid_events.proofs.Laws.{read_so_lem, read_none}
use Rattle.engine_valid_events.proofs.slice.Goals as goal

pub returns-then-rest_zero : goal.returns-then-rest_zero
unfolding well_formed event_as
returns-then-rest_zero c = λ s. read_so_lem s c.args.ev.now kind.slice _ (sym c.rest_zero.ensures ∙ c.if-rest_zero.true) refl

pub returns : goal.returns
unfolding well_formed
returns c = λ s. read_none s c.args.ev.now kind.slice _ (sym c.rest_zero.ensures ∙ c.if-rest_zero.false) refl
