use mathlib.Core.Path.{ap}
use lib.IntN.{nat_abs}
use Rattle.machine.specs.State.{waiting}
use Rattle.engine_queue.proofs.Laws.{head_read, head-counts}
use Rattle.engine_queue.proofs.waiting_count.Goals as goal

pub overflow_cast-result : goal.overflow_cast-result
overflow_cast-result c = rw (head_read _ c.requires) (head-counts _ c.requires)

pub returns : goal.returns
unfolding waiting
returns c = ap nat_abs (head_read _ c.requires)
