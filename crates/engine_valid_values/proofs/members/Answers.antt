use Rattle.sheet_rules.specs.Fields.{field_of, field_at, members_of}
use Rattle.engine_valid_values.proofs.members.Goals as goal

pub returns : goal.returns
unfolding field_at field_of members_of
returns c = c.field_at.ensures
