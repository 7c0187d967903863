-- Bounds of a node's operands, so that no sum of their places wraps.
use Rattle.std.specs.Prelude.{◌≤◌, ◌<◌}
use Rattle.sheet_rules.specs.declared.Operands.{Operands}

pub record Small (o : Operands) : Type 0 where
  pub first : o.first ≤ 3
  pub count : o.count ≤ 3
  pub tail : o.tail < 65536
