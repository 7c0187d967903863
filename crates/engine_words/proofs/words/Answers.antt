use mathlib.Core.Path.{◌≡◌, refl, ◌∙◌}
use native.Mathlib.Omega.{arith}
use lib.ListN.{length-set}
use mir.Syntax.{w32}
use mir.Val.{to_z, of_z}
use borrow.Author.Rules.{rules}
use Rattle.engine_words.specs.Words.{words_at}
use Rattle.engine_words.proofs.Laws.{words_more}
use Rattle.engine_words.proofs.words.Goals as goal

pub loop-i-init : goal.loop-i-init
unfolding words_at
loop-i-init c = (refl, refl)

pub loop-i-preserved : goal.loop-i-preserved
loop-i-preserved c = let l = c.loop-i-test.true in
    let q : to_z w32 (of_z w32 c.word.result) ≡ c.word.result = search rules in
    (simp length-set c.loop-i.invariant.0, words_more c.args.bytes.now c.args.at c.loop-i.out c.loop-i.i _ (omega arith) c.loop-i.invariant.1 (q ∙ c.word.ensures))
