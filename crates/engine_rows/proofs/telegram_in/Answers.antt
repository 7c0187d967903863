use borrow.Author.Rules.{rules}
use Rattle.machine.specs.State.{word_of, telegram_in}
use Rattle.engine_rows.proofs.telegram_in.Goals as goal

pub returns : goal.returns
unfolding telegram_in word_of
returns c = search rules
