use Rattle.machine.specs.State.{telegram_in}
use Rattle.engine_valid_words.proofs.Laws.{read_back}
use Rattle.engine_valid_telegrams.proofs.is_internal.Goals as goal

pub returns : goal.returns
unfolding telegram_in
returns c = rw (read_back _ _ c.word.ensures.0 c.word.ensures.1) at c.same.ensures
