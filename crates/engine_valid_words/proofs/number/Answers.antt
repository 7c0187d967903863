use mir.Facts.{Fits-nat_abs}
use Rattle.engine_valid_words.proofs.Laws.{back, not_negative}
use Rattle.engine_valid_words.proofs.number.Goals as goal

pub overflow_cast-result : goal.overflow_cast-result
overflow_cast-result c = rw (back c.ranges.z) (not_negative c.args.z c.requires, Fits-nat_abs tt c.ranges.z)
