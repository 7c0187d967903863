use native.Mathlib.Omega.{arith}
use lib.ListN.{length-set}
use Rattle.engine_ints.proofs.Range.{back}
use Rattle.engine_assigning.proofs.Acts.{to_chart, to_body, to_none}
use Rattle.engine_assigning.proofs.put.Goals as goal

pub returns-in-1 : goal.returns-in-1
returns-in-1 c = (c.requires.0, λ s x e. rw (back c.ranges.z) (to_chart s x _ _ _ _ _ _ c.in-1.is _ _ c.first_word-at.ensures e))

pub returns-in-2 : goal.returns-in-2
returns-in-2 c = (simp length-set c.requires.0, λ s x e. rw (back c.ranges.z) (to_body s x _ _ _ _ _ _ c.in-2.is))

pub returns-in_default : goal.returns-in_default
returns-in_default c = (c.requires.0, λ s x e. to_none s x _ _ _ _ _ _ (omega arith) (omega arith))
