use mathlib.Core.Path.{refl}
use Rattle.machine.specs.State.{word_of}
use Rattle.engine_valid_words.proofs.Laws.{back, fits_32}
use Rattle.engine_valid_words.proofs.word.Goals as goal

pub returns : goal.returns
unfolding word_of
returns c = rw (back (record { sfits = c.result-1.given })) (refl, fits_32 (record { sfits = c.result-1.given }))
