use Rattle.std.proofs.Common.{rules}
use Rattle.engine_searching.proofs.oldest_external.Goals as goal

pub returns : goal.returns
returns c = λ s e. c.oldest.ensures s _ e (λ at r fits is. search rules)
