use Rattle.std.proofs.Common.{rules}
use Rattle.engine_finders.proofs.Laws.{stands}
use Rattle.engine_finders.proofs.with_role.Goals as goal

pub returns : goal.returns
returns c = stands _ _ _ _ (c.first_body.ensures _ (λ i b r there is. search rules))
