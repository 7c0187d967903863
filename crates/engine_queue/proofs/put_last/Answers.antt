use Prim.Native.Nat.{◌+◌}
use mathlib.Core.Path.{◌≡◌, ◌∙◌}
use lib.IntN.{pos}
use lib.ListN.{set}
use borrow.Author.Rules.{rules}
use Rattle.machine.specs.State.{words_of, put_words}
use Rattle.engine_store.proofs.Lies.{place_in_lem}
use Rattle.engine_queue.proofs.Laws.{last_put}
use Rattle.engine_queue.proofs.put_last.Goals as goal

pub returns : goal.returns
returns c = λ s e.
    let put : c.set_word.new.st ≡ set (put_words c.args.st.now c.place_at-at.result (words_of c.args.t)) 0 (pos (c.waiting_count-n.result + 1)) = search rules in
    put ∙ last_put s _ c.args.t _ _ c.waiting_count-n.ensures (c.place_at-at.ensures ∙ place_in_lem s _ _ e)
