use Rattle.checker_variables.proofs.Laws.{array_assigned, to_parameter, not_its_type, assigns}
use mathlib.Core.Path.{ap}
use mathlib.Core.Bool.{not}
use Rattle.checker_variables.proofs.assign_type.Goals as goal

pub returns-then-r-eq0 : goal.returns-then-r-eq0
returns-then-r-eq0 c = to_parameter _ _ _ _ _ c.if-r-eq0.true

pub returns-then-not-is_plain : goal.returns-then-not-is_plain
returns-then-not-is_plain c = array_assigned _ _ _ _ _ c.variable_at-target.ensures _ c.is_plain.ensures _ (ap not c.if-not-is_plain.true)

pub returns-then-not-is_of : goal.returns-then-not-is_of
returns-then-not-is_of c = not_its_type _ _ _ _ _ _ _ _ c.variable_at-target.ensures c.type_at.ensures c.is_of.ensures (ap not c.if-not-is_of.true)

pub returns : goal.returns
returns c = assigns _ _ _ _ _ _ _ _ c.variable_at-target.ensures c.type_at.ensures c.is_of.ensures _ c.is_plain.ensures c.if-r-eq0.false (ap not c.if-not-is_plain.false) (ap not c.if-not-is_of.false)
