use mathlib.Core.Path.{refl}
use Rattle.engine_valid_words.proofs.Laws.{back}
use Rattle.engine_valid_words.proofs.at_least.Goals as goal

pub returns : goal.returns
returns c = rw (back c.ranges.a, back c.ranges.b) refl
