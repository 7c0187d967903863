use mathlib.Core.Path.{refl}
use Rattle.engine_answering.proofs.answer.Goals as goal

pub returns-then-number-eq0 : goal.returns-then-number-eq0
returns-then-number-eq0 c = (c.answered.ensures, λ z. refl, λ n. absurd (n c.if-number-eq0.true))

pub returns : goal.returns
returns c = (c.answered-2.ensures, λ z. absurd (c.if-number-eq0.false z), λ n. c.copy.ensures)
