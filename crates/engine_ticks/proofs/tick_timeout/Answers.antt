use Prim.Native.Nat.{◌+◌}
use native.Mathlib.Omega.{arith}
use mathlib.Core.Path.{sym, ap, ◌∙◌}
use lib.ListN.{get_or, set}
use lib.IntN.{ℤ, pos}
use Rattle.std.proofs.lemmas.Result.{err_from_is_err_and}
use borrow.Author.Rules.{rules}
use Rattle.machine.specs.State.{word_of, on}
use Rattle.engine_rows.proofs.Laws.{given, bits_same, bits_differ}
use Rattle.engine_queue.specs.Changed.{changed_to}
use Rattle.engine_ticks.proofs.Laws.{last-int, one_less, then_refused, then_done, timeout_goes, timeout_fires}
use Rattle.engine_ticks.proofs.tick_timeout.Goals as goal

pub overflow_sub-st : goal.overflow_sub-st
unfolding word_of
overflow_sub-st c = let w = get_or c.args.st.now (c.args.at + 1) (pos 0) in rw (given w (search rules)) (record { sfits = last-int w (search rules) c.requires.0.value })

pub returns-then-value-ne1 : goal.returns-then-value-ne1
unfolding changed_to word_of
returns-then-value-ne1 c = λ s e n. let w = get_or c.args.st.now (c.args.at + 1) (pos 0) in let q = bits_differ {z = w} {w = pos 1} (record { sfits = (search rules) }) (record { sfits = omega arith }) c.if-value-ne1.true in timeout_goes s _ _ _ q ∙ ap (λ (z : ℤ). on (set c.args.st.now (c.args.at + 1) z)) (sym (one_less w (search rules) c.requires.0.value))

pub returns-in_err-fire : goal.returns-in_err-fire
unfolding word_of
returns-in_err-fire c = λ s e n. timeout_fires s _ _ _ n (bits_same {z = get_or c.args.st.now (c.args.at + 1) (pos 0)} {w = pos 1} (record { sfits = (search rules) }) (record { sfits = omega arith }) c.if-value-ne1.false) ∙ (let p = err_from_is_err_and c.from_residual.result c.from_residual.ensures.1 in rw (p.1, p.2) (then_refused _ _ _ _ _ (c.in_err-fire.ensures s e)))

pub returns : goal.returns
unfolding changed_to word_of
returns c = λ s e n.
    timeout_fires s _ _ _ n (bits_same {z = get_or c.args.st.now (c.args.at + 1) (pos 0)} {w = pos 1} (record { sfits = (search rules) }) (record { sfits = omega arith }) c.if-value-ne1.false)
    ∙ then_done _ _ _ _ (c.in_ok-fire.ensures s e)
    ∙ ap on (sym c.set_cell.ensures)
