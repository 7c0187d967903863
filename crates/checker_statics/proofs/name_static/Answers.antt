use Rattle.sheet_rules.specs.Static.{name_static}
use Rattle.checker_statics.proofs.name_static.Goals as goal

pub returns : goal.returns
unfolding name_static
returns c = c.plain_data.ensures
