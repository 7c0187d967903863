use mathlib.Core.Path.{refl}
use Rattle.checker_nodes.proofs.chart_variable_there.Goals as goal

pub returns : goal.returns
returns c = refl
