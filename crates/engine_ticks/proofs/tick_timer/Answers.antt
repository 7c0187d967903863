use Prim.Native.Nat.{◌+◌}
use native.Mathlib.Omega.{arith}
use lib.ListN.{get_or}
use lib.IntN.{pos, ◌+ℤ◌}
use borrow.Author.Rules.{rules}
use Rattle.machine.specs.State.{word_of}
use Rattle.engine_rows.proofs.Laws.{given, bits_same, bits_differ}
use Rattle.engine_queue.specs.Changed.{changed_to}
use Rattle.engine_ticks.proofs.Laws.{next_int, timer_last, timer_goes}
use Rattle.engine_ticks.proofs.tick_timer.Goals as goal

pub returns-then-value-eq2147483647 : goal.returns-then-value-eq2147483647
unfolding changed_to word_of
returns-then-value-eq2147483647 c = λ s e. timer_last s e _ _ (bits_same {z = get_or c.args.st.now (c.args.at + 1) (pos 0)} {w = pos 2147483647} (record { sfits = (search rules) }) (record { sfits = omega arith }) c.if-value-eq2147483647.true)

pub returns : goal.returns
unfolding changed_to word_of
returns c = λ s e. let w = get_or c.args.st.now (c.args.at + 1) (pos 0) in let q = bits_differ {z = w} {w = pos 2147483647} (record { sfits = (search rules) }) (record { sfits = omega arith }) c.if-value-eq2147483647.false in rw (given w (search rules), given (w +ℤ pos 1) (next_int w (search rules) c.requires.value q)) (timer_goes s e _ _ q)
