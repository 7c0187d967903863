use mathlib.Core.Path.{ap, ◌∙◌}
use lib.IntN.{ℤ}
use Rattle.machine.specs.Values.{is_below}
use Rattle.engine_valid_words.proofs.Laws.{read_back}
use Rattle.engine_valid_words.proofs.below_at.Goals as goal

pub returns : goal.returns
returns c = c.is_below.ensures ∙ ap (λ (z : ℤ). is_below z c.args.n) (read_back _ _ c.word.ensures.0 c.word.ensures.1)
