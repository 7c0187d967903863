use mathlib.Core.Path.{sym, subst, ◌∙◌}
use Prim.Native.Nat.{◌<◌}
use Rattle.engine_valid_words.proofs.Laws.{below-from}
use Rattle.engine_answers.proofs.Laws.{below-there, below_less}
use Rattle.engine_answers.proofs.number_below.Goals as goal

pub number_at-requires : goal.number_at-requires
number_at-requires c = (c.requires.0, below-from _ _ (sym c.below_at.ensures ∙ c.if-below_at.true))

pub returns-then-below_at : goal.returns-then-below_at
returns-then-below_at c = let is = sym c.below_at.ensures ∙ c.if-below_at.true in
    let n = c.number_at.ensures in
    (n ∙ below-there _ _ is, subst (λ k. k < c.args.end) (sym n) (below_less _ _ is))
