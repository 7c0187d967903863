use Rattle.sheet_rules.specs.Fields.{field_of, field_at, ports_of}
use Rattle.engine_valid_values.proofs.ports.Goals as goal

pub returns : goal.returns
unfolding field_at field_of ports_of
returns c = c.field_at.ensures
