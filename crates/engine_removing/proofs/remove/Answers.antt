use Prim.Native.Nat.{◌-◌}
use mathlib.Core.Path.{◌≡◌, ◌∙◌}
use native.Mathlib.Omega.{arith}
use lib.IntN.{pos}
use lib.ListN.{set, replicate}
use borrow.Author.Rules.{rules}
use Rattle.machine.specs.State.{put_words}
use Rattle.engine_store.proofs.Lies.{place_in_lem}
use Rattle.engine_queue.proofs.Laws.{waiting_limit}
use Rattle.engine_removing.proofs.Removed.{moved_copied, removed}
use Rattle.engine_removing.proofs.remove.Goals as goal

pub returns : goal.returns
returns c = λ s o.
    let st = c.args.st.now in
    let n = c.waiting_count-n.result - 1 in
    let copied = c.copy_within.ensures.by_index in
    let h : c.set_word.new.st ≡ set (put_words c.copy_within.new.self c.place_at-end.result (replicate 8 (pos 0))) 0 (pos n) = search (rules, waiting_limit _ c.requires.0) in
    h ∙ removed s st o c.args.j n c.place_at-at.result c.place_at-end.result c.copy_within.new.self c.requires.1 (omega arith) (c.place_at-at.ensures ∙ place_in_lem s _ _ o.whole) (c.place_at-end.ensures ∙ place_in_lem s _ _ o.whole) c.copy_within.ensures.len (moved_copied _ _ _ _ _ (omega arith) copied.0 copied.1 copied.2)
