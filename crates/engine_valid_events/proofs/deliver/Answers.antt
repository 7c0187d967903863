use mathlib.Core.Path.{refl, sym, ◌∙◌}
use Rattle.machine_events.specs.declared.Event.TheVariants.{Deliver}
use Rattle.machine_events.specs.Event.{event_as}
use Rattle.engine_valid_words.proofs.Laws.{read_back}
use Rattle.engine_valid_events.proofs.Laws.{read_so_lem, read_none}
use Rattle.engine_valid_events.proofs.deliver.Goals as goal

pub returns-then-deliver_formed : goal.returns-then-deliver_formed
unfolding event_as
returns-then-deliver_formed c = read_so_lem _ _ _ _ (sym c.deliver_formed.ensures ∙ c.if-deliver_formed.true) (λ i. Deliver (read_back _ _ c.word.ensures.0 c.word.ensures.1 i) (read_back _ _ c.word-then-deliver_formed.ensures.0 c.word-then-deliver_formed.ensures.1 i))

pub returns : goal.returns
returns c = read_none _ _ _ _ (sym c.deliver_formed.ensures ∙ c.if-deliver_formed.false) refl
