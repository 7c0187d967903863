use mathlib.Core.Path.{ap, ◌∙◌}
use lib.IntN.{ℤ, pos, nat_abs}
use lib.Signed.{le_z}
use Rattle.engine_valid_words.proofs.Laws.{read_back}
use Rattle.engine_valid_words.proofs.number_at.Goals as goal

pub number-requires : goal.number-requires
number-requires c = ap (λ (z : ℤ). le_z (pos 0) z) (read_back _ _ c.word.ensures.0 c.word.ensures.1) ∙ c.requires.1

pub returns : goal.returns
returns c = c.number.ensures ∙ ap nat_abs (read_back _ _ c.word.ensures.0 c.word.ensures.1)
