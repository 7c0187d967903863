use Rattle.checker_arrays.proofs.Laws.{no_element-assigned, not_its_element, assigns_element}
use mathlib.Core.Path.{ap}
use mathlib.Core.Bool.{not}
use Rattle.checker_arrays.proofs.assign_element_type.Goals as goal

pub returns-then-not-indexed_by : goal.returns-then-not-indexed_by
returns-then-not-indexed_by c = no_element-assigned _ _ _ _ _ c.indexed_by.ensures _ (ap not c.if-not-indexed_by.true)

pub returns-then-not-is_of : goal.returns-then-not-is_of
returns-then-not-is_of c = not_its_element _ _ _ _ _ c.indexed_by.ensures _ _ _ c.chart_variable_type.ensures c.is_of.ensures (ap not c.if-not-is_of.true)

pub returns : goal.returns
returns c = assigns_element _ _ _ _ _ c.indexed_by.ensures _ _ _ c.chart_variable_type.ensures c.is_of.ensures (ap not c.if-not-indexed_by.false) (ap not c.if-not-is_of.false)
