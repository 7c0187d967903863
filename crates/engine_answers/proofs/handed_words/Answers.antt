use borrow.Author.Rules.{rules}
use Rattle.machine_lists.specs.Words.{handed_words}
use Rattle.engine_answers.proofs.handed_words.Goals as goal

pub returns-in-None : goal.returns-in-None
unfolding handed_words
returns-in-None c = search rules

pub returns-in-Some : goal.returns-in-Some
unfolding handed_words
returns-in-Some c = search rules
