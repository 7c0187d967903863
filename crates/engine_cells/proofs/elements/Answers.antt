use native.Mathlib.Omega.{arith}
use Rattle.machine_passed.proofs.Records.{elements-rest}
use Rattle.engine_cells.proofs.Laws.{elements_by, externals_by, components_by, bound-below}
use Rattle.engine_cells.proofs.elements.Goals as goal

pub overflow_sub-result : goal.overflow_sub-result
overflow_sub-result c = omega (arith, components_by _ _ c.field_at-components.ensures.0, externals_by _ _ c.field_at.ensures.0, elements-rest _ c.requires)

pub returns : goal.returns
returns c = let n = elements_by _ _ _ c.field_at-components.ensures.0 c.field_at.ensures.0 in (n, omega (arith, n, bound-below _ c.requires))
