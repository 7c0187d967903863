use Rattle.engine_ints.proofs.Words.{same_bits}
use Rattle.engine_valid_words.proofs.same.Goals as goal

pub returns : goal.returns
returns c = same_bits _ _ c.ranges.a c.ranges.b
