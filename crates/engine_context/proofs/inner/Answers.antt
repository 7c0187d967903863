use native.Mathlib.Omega.{arith}
use lib.ListN.{length-set}
use lib.Seq.{get_or-set_same, get_or-set_other}
use Rattle.engine_context.proofs.inner.Goals as goal

pub returns : goal.returns
returns c = (simp length-set c.requires, get_or-set_same c.args.context.now 4 c.args.body 0 (omega arith), λ n h. get_or-set_other c.args.context.now 4 n c.args.body 0 h)
