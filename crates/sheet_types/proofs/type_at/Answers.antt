use Rattle.sheet_rules.specs.Fields.{field_of, field_at, type_at}
use Rattle.sheet_types.proofs.type_at.Goals as goal

pub returns : goal.returns
unfolding field_at field_of type_at
returns c = c.field_at.ensures.0
