use mathlib.Core.Path.{ap, ◌∙◌}
use lib.Dec.{eqb}
use Rattle.engine_ints.proofs.Words.{word_back}
use Rattle.machine.specs.declared.Ran.TheVariants.{Done}
use Rattle.machine.specs.Run.{world}
use Rattle.engine_arming.proofs.Acts.{clock-runs}
use Rattle.engine_arming.proofs.clock.Goals as goal

pub returns : goal.returns
returns c = λ s lo n depth v. ap (λ st. world (Done c.args.left) st lo) (rw (word_back _ (eqb c.args.r.f0 38) c.bool_word-running.ensures) at (rw c.first_word.ensures at c.set_cell.ensures)) ∙ clock-runs s _ _ lo n _ v depth _
