use Rattle.sheet_rules.specs.Fields.{field_of, field_at, externals_of}
use Rattle.engine_valid_values.proofs.externals.Goals as goal

pub returns : goal.returns
unfolding field_at field_of externals_of
returns c = c.field_at.ensures
