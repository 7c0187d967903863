use borrow.Author.Rules.{rules}
use Rattle.std.proofs.lemmas.Slice.{overwrites}
use Rattle.machine.specs.State.{put_words}
use Rattle.engine_rows.proofs.put_words.Goals as goal

pub returns : goal.returns
unfolding put_words
returns c = search (rules, overwrites)
