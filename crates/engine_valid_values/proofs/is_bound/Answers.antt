use borrow.Author.Rules.{rules}
use Rattle.sheet.specs.All.{◌and◌}
use Rattle.machine.specs.Values.{is_bound}
use Rattle.engine_valid_values.proofs.is_bound.Goals as goal

pub returns-then-externals-e : goal.returns-then-externals-e
unfolding is_bound ◌and◌
returns-then-externals-e c = search rules

pub returns-else-externals-e : goal.returns-else-externals-e
unfolding is_bound ◌and◌
returns-else-externals-e c = search rules
