use mathlib.Core.Path.{refl}
use native.Mathlib.Omega.{arith}
use Rattle.program_text.proofs.Laws.{placed_one}
use Rattle.program_text.proofs.put.Goals as goal

pub returns : goal.returns
returns c = (record { text = placed_one c.args.out.now c.args.at c.args.b c.requires; end = refl }, omega arith)
