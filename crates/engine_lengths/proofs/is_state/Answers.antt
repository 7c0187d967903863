use mathlib.Core.Path.{ap}
use lib.Dec.{eqb}
use Rattle.engine_lengths.proofs.is_state.Goals as goal

pub returns : goal.returns
returns c = ap (eqb c.args.words) c.state_length.ensures
