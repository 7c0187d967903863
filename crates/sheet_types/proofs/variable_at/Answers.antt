use Rattle.sheet_types.proofs.Laws.{variable_0, variable_1, variable_parameter, variable_local}
use Rattle.sheet_types.proofs.variable_at.Goals as goal

pub returns-in-0 : goal.returns-in-0
returns-in-0 c = variable_0 _ _ _ _ c.in-0.is

pub returns-in-1 : goal.returns-in-1
returns-in-1 c = variable_1 _ _ _ _ c.in-1.is

pub returns-then-n-b : goal.returns-then-n-b
returns-then-n-b c = variable_parameter _ _ _ _ c.in_default.in_default-own.rest.0.1 c.in_default.in_default-own.rest.1 c.if-n-b.true

pub returns-else-n-b : goal.returns-else-n-b
returns-else-n-b c = variable_local _ _ _ _ c.in_default.in_default-own.rest.0.1 c.in_default.in_default-own.rest.1 c.if-n-b.false
