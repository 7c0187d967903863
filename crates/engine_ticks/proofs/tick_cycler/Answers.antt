use Prim.Native.Nat.{◌+◌}
use native.Mathlib.Omega.{arith}
use mathlib.Core.Path.{sym, ap, ◌∙◌}
use lib.ListN.{get_or, set}
use lib.IntN.{ℤ, pos, ◌-ℤ◌}
use Rattle.std.proofs.lemmas.Result.{err_from_is_err_and}
use borrow.Author.Rules.{rules}
use Rattle.machine.specs.State.{word_of, on}
use Rattle.engine_rows.proofs.Laws.{given}
use Rattle.engine_queue.specs.Changed.{changed_to}
use Rattle.engine_ticks.proofs.Laws.{last-int, one_less, bits_zero, bits_some, then_refused, then_done, goes_on_lem, fired_word, put_two, cycler_goes, cycler_fires}
use Rattle.engine_ticks.proofs.tick_cycler.Goals as goal

pub overflow_sub-st : goal.overflow_sub-st
unfolding word_of
overflow_sub-st c = let w = get_or c.args.st.now (c.args.at + 1) (pos 0) in rw (given w (search rules)) (record { sfits = last-int w (search rules) c.requires.0.value })

pub returns-then-value-ne0 : goal.returns-then-value-ne0
unfolding changed_to word_of
returns-then-value-ne0 c = λ s e n. let w = get_or c.args.st.now (c.args.at + 1) (pos 0) in cycler_goes s _ _ _ (bits_some w (search rules) c.if-value-ne0.true) ∙ ap (λ (z : ℤ). on (set c.args.st.now (c.args.at + 1) z)) (sym (one_less w (search rules) c.requires.0.value))

pub overflow_sub-next : goal.overflow_sub-next
unfolding word_of
overflow_sub-next c = let w = get_or c.args.st.now (c.args.at + 2) (pos 0) in rw (given w (search rules)) (record { sfits = last-int w (search rules) c.requires.0.period })

pub returns-in_err-fire : goal.returns-in_err-fire
unfolding word_of
returns-in_err-fire c = λ s e n. cycler_fires s _ _ _ n (bits_zero (get_or c.args.st.now (c.args.at + 1) (pos 0)) (search rules) c.if-value-ne0.false) ∙ (let p = err_from_is_err_and c.from_residual.result c.from_residual.ensures.1 in rw (p.1, p.2) (then_refused _ _ _ _ _ (c.in_err-fire.ensures s e)))

pub returns : goal.returns
unfolding changed_to word_of
returns c = λ s e n.
    let w = get_or c.args.st.now (c.args.at + 2) (pos 0) in
    let f = fired_word s _ _ _ e c.requires.0 _ (goes_on_lem _ _ _ (c.in_ok-fire.ensures s e)) in
    cycler_fires s _ _ _ n (bits_zero (get_or c.args.st.now (c.args.at + 1) (pos 0)) (search rules) c.if-value-ne0.false)
    ∙ then_done _ _ _ _ (c.in_ok-fire.ensures s e)
    ∙ ap on (put_two _ _ (w -ℤ pos 1) (let l = c.requires.0.inside in let m = f.1 in omega arith) f.0)
    ∙ ap (λ (z : ℤ). on (set c.fire.new.st (c.args.at + 1) z)) (sym (one_less w (search rules) c.requires.0.period))
    ∙ ap on (sym c.set_word.ensures)
