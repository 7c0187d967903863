use mathlib.Core.Path.{ap, ◌∙◌, ap₂}
use lib.Dec.{eqb}
use Rattle.sheet_rules.specs.Shape.{bodies_up_to, bodies_covered}
use Rattle.checker_charts.proofs.bodies_covered.Goals as goal

pub returns : goal.returns
unfolding bodies_covered
returns c = ap₂ eqb (c.bodies_up_to.ensures ∙ ap (bodies_up_to _) c.count.ensures) c.count-2.ensures
