use native.Mathlib.Omega.{arith}
use Rattle.engine_queue.proofs.Laws.{waiting_limit}
use Rattle.engine_sought.proofs.take.Goals as goal

pub telegram_at-t-requires : goal.telegram_at-t-requires
telegram_at-t-requires c = (c.requires.long, omega (arith, waiting_limit _ c.requires, c.waiting_count.ensures, c.if-waiting_count-j.false))
