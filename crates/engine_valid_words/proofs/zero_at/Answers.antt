use mathlib.Core.Path.{ap, ◌∙◌}
use Rattle.machine.specs.Values.{is_zero}
use Rattle.engine_valid_words.proofs.Laws.{read_back}
use Rattle.engine_valid_words.proofs.zero_at.Goals as goal

pub returns : goal.returns
returns c = c.is_zero.ensures ∙ ap is_zero (read_back _ _ c.word.ensures.0 c.word.ensures.1)
