use mathlib.Core.Path.{◌≡◌, ap, ◌∙◌}
use mir.Syntax.{w32}
use mir.Val.{to_z, of_z}
use borrow.Author.Rules.{rules}
use Rattle.engine_words.specs.Words.{signed_at}
use Rattle.engine_words.proofs.word.Goals as goal

pub returns : goal.returns
unfolding signed_at
returns c = (let e : to_z w32 (of_z w32 c.signed.result) ≡ c.signed.result = search rules in e) ∙ c.signed.ensures ∙ ap (to_z w32) c.number.ensures.0
