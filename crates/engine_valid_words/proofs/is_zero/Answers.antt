use Rattle.engine_valid_words.proofs.Laws.{zero_bits}
use Rattle.engine_valid_words.proofs.is_zero.Goals as goal

pub returns : goal.returns
returns c = zero_bits _ c.ranges.z
