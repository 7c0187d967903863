use mathlib.Core.Path.{refl, sym, ◌∙◌}
use Rattle.machine_events.specs.declared.Event.TheVariants.{Corrupt}
use Rattle.machine_events.specs.Event.{event_as}
use Rattle.engine_valid_words.proofs.Laws.{read_back}
use Rattle.engine_valid_events.proofs.Laws.{read_so_lem, read_none}
use Rattle.engine_valid_events.proofs.corrupt.Goals as goal

pub returns-then-corrupt_formed : goal.returns-then-corrupt_formed
unfolding event_as
returns-then-corrupt_formed c = read_so_lem _ _ _ _ (sym c.corrupt_formed.ensures ∙ c.if-corrupt_formed.true) (λ i. Corrupt (read_back _ _ c.word.ensures.0 c.word.ensures.1 i) (read_back _ _ c.word-then-corrupt_formed.ensures.0 c.word-then-corrupt_formed.ensures.1 i))

pub returns : goal.returns
returns c = read_none _ _ _ _ (sym c.corrupt_formed.ensures ∙ c.if-corrupt_formed.false) refl
