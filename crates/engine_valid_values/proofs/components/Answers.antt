use Rattle.sheet_rules.specs.Fields.{field_of, field_at, components_of}
use Rattle.engine_valid_values.proofs.components.Goals as goal

pub returns : goal.returns
unfolding field_at field_of components_of
returns c = c.field_at.ensures
