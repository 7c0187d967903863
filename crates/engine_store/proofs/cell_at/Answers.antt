use native.Mathlib.Omega.{arith}
use mathlib.Core.Path.{refl}
use Rattle.machine.specs.State.{cell_at}
use Rattle.engine_store.proofs.cell_at.Goals as goal

pub overflow_mul-result : goal.overflow_mul-result
unfolding cell_at
overflow_mul-result c = record { fits = omega (arith, c.requires) }

pub overflow_add-result : goal.overflow_add-result
unfolding cell_at
overflow_add-result c = record { fits = omega (arith, c.requires) }

pub returns : goal.returns
unfolding cell_at
returns c = refl
