use Prim.Native.Nat.{◌+◌}
use mathlib.Core.Path.{sym, ◌∙◌}
use lib.IntN.{pos}
use lib.ListN.{get_or}
use borrow.Author.Rules.{rules}
use borrow.Author.Tests.{ne_eqb}
use Rattle.sheet.proofs.All.{true-and, first_fails_lem}
use Rattle.machine.specs.State.{word_of, telegram_in}
use Rattle.engine_ints.proofs.Words.{same_bits}
use Rattle.engine_rows.proofs.Laws.{port-inside, port-outside}
use Rattle.engine_searching.proofs.inner.Goals as goal

pub returns-else-st-at : goal.returns-else-st-at
unfolding telegram_in word_of
returns-else-st-at c = ne_eqb _ _ c.if-st-at.false ∙ first_fails_lem _ _ (port-outside (get_or c.args.st.now (c.args.at + 2) (pos 0)) (record { sfits = search rules }) c.if-st-at.false)

pub returns-then-st-at : goal.returns-then-st-at
unfolding telegram_in word_of
returns-then-st-at c = let st = c.args.st.now in let at = c.args.at in
    same_bits (get_or st (at + 1) (pos 0)) _ (record { sfits = search rules }) c.ranges.r
    ∙ sym (true-and _ _ (port-inside (get_or st (at + 2) (pos 0)) (record { sfits = search rules }) c.if-st-at.true))
