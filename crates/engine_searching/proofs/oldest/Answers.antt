use mathlib.Core.Path.{sym, ap, ◌∙◌}
use native.Mathlib.Omega.{arith}
use Rattle.std.proofs.Common.{rules, of_calls}
use Rattle.machine.specs.State.{telegram_in, telegram_of}
use Rattle.engine_store.proofs.Lies.{place_in_lem}
use Rattle.engine_queue.proofs.Laws.{waiting_limit}
use Rattle.engine_searching.proofs.Laws.{oldest-start, oldest_next, oldest_here, oldest-end}
use Rattle.engine_searching.proofs.oldest.Goals as goal

pub loop-j-init : goal.loop-j-init
loop-j-init g c = λ s p e t. oldest-start s _ _ _ c.waiting_count-n.ensures

pub place_at-requires : goal.place_at-requires
place_at-requires g c = (c.requires.laid.long, omega (arith, waiting_limit _ c.requires.laid))

pub is_sought-requires : goal.is_sought-requires
is_sought-requires g c = search (rules, of_calls, c.requires.asked c.place_at.result (omega (arith, waiting_limit _ c.requires.laid, c.requires.laid.long)))

pub returns-then-is_sought : goal.returns-then-is_sought
unfolding telegram_of
returns-then-is_sought g c = λ s p e t.
    oldest_here s c.args.st.now p _ _ c.loop-j-test.true (ap (λ at. p (telegram_in c.args.st.now at)) (sym (c.place_at.ensures ∙ place_in_lem s _ _ e)) ∙ sym (t c.place_at.result _ (omega (arith, waiting_limit _ c.requires.laid, c.requires.laid.long)) (search of_calls)) ∙ c.if-is_sought.true) ∙ sym (c.loop-j.invariant s p e t)

pub loop-j-preserved : goal.loop-j-preserved
unfolding telegram_of
loop-j-preserved g c = λ s p e t.
    c.loop-j.invariant s p e t ∙ oldest_next s c.args.st.now p _ _ c.loop-j-test.true (ap (λ at. p (telegram_in c.args.st.now at)) (sym (c.place_at.ensures ∙ place_in_lem s _ _ e)) ∙ sym (t c.place_at.result _ (omega (arith, waiting_limit _ c.requires.laid, c.requires.laid.long)) (search of_calls)) ∙ c.if-is_sought.false)

pub returns : goal.returns
returns g c = λ s p e t. oldest-end s c.args.st.now p _ _ c.loop-j-test.false (omega arith) ∙ sym (c.loop-j.invariant s p e t)
