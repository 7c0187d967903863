use borrow.Author.Rules.{rules}
use Rattle.sheet.specs.All.{◌and◌}
use Rattle.engine_valid_names.proofs.Laws.{reaction_is}
use Rattle.engine_valid_names.proofs.has_reaction.Goals as goal

pub returns : goal.returns
unfolding ◌and◌
returns c = reaction_is _ _ _ _ (c.first_body-found.ensures _ (λ i b r there is. search rules))
