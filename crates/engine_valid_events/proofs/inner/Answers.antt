use mathlib.Core.Path.{refl, sym, ap, ◌∙◌}
use Rattle.machine_events.specs.declared.Event.TheVariants.{Inner}
use Rattle.machine_events.specs.Event.{event_as}
use Rattle.engine_valid_words.proofs.Laws.{read_back}
use Rattle.engine_valid_events.proofs.Laws.{read_so_lem, read_none}
use Rattle.engine_valid_events.proofs.inner.Goals as goal

pub returns-then-inner_formed : goal.returns-then-inner_formed
unfolding event_as
returns-then-inner_formed c = read_so_lem _ _ _ _ (sym c.inner_formed.ensures ∙ c.if-inner_formed.true) (ap Inner (read_back _ _ c.word.ensures.0 c.word.ensures.1))

pub returns : goal.returns
returns c = read_none _ _ _ _ (sym c.inner_formed.ensures ∙ c.if-inner_formed.false) refl
