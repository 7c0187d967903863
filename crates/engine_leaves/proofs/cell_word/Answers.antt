use Prim.Native.Nat.{◌+◌}
use mathlib.Core.Path.{ap, ◌∙◌}
use native.Mathlib.Omega.{arith}
use lib.ListN.{get_or}
use lib.IntN.{pos}
use Rattle.machine.specs.State.{word_of}
use Rattle.engine_ints.proofs.Range.{back}
use Rattle.engine_leaves.proofs.cell_word.Goals as goal

pub returns : goal.returns
unfolding word_of
returns c = back (record { sfits = omega arith }) ∙ ap (λ i. get_or c.args.st.now (i + c.args.k) (pos 0)) c.first_word.ensures
