use mathlib.Core.Path.{ap, ◌∙◌}
use Rattle.machine.specs.State.{telegram_in, telegram_of}
use Rattle.engine_store.proofs.Lies.{place_in_lem}
use Rattle.engine_queue.proofs.telegram_at.Goals as goal

pub returns : goal.returns
unfolding telegram_of
returns c = λ s e. c.telegram_in.ensures ∙ ap (telegram_in c.args.st.now) (c.place_at-at.ensures ∙ place_in_lem s _ _ e)
