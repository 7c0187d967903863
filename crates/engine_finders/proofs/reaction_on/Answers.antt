use Rattle.std.proofs.Common.{rules}
use Rattle.sheet.specs.All.{◌and◌}
use Rattle.engine_finders.proofs.Laws.{stands}
use Rattle.engine_finders.proofs.reaction_on.Goals as goal

pub returns : goal.returns
unfolding ◌and◌
returns c = stands _ _ _ _ (c.first_body.ensures _ (λ i b r there is. search rules))
