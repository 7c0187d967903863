use Rattle.checker_arrays.proofs.Laws.{no_element-read, element-read}
use mathlib.Core.Path.{ap}
use mathlib.Core.Bool.{not}
use Rattle.checker_arrays.proofs.read_element_type.Goals as goal

pub returns-then-not-indexed_by : goal.returns-then-not-indexed_by
returns-then-not-indexed_by c = no_element-read _ _ _ _ _ c.indexed_by.ensures (ap not c.if-not-indexed_by.true)

pub returns : goal.returns
returns c = element-read _ _ _ _ _ c.indexed_by.ensures _ (ap not c.if-not-indexed_by.false) c.chart_variable_type.ensures
