use borrow.Author.Rules.{rules}
use Rattle.sheet.specs.All.{◌and◌}
use Rattle.engine_valid_values.proofs.both_below.Goals as goal

pub returns-then-below_at : goal.returns-then-below_at
unfolding ◌and◌
returns-then-below_at c = search rules

pub returns-else-below_at : goal.returns-else-below_at
unfolding ◌and◌
returns-else-below_at c = search rules
