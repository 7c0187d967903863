use Prim.Native.Nat.{◌+◌}
use mathlib.Core.Path.{sym, ap, ◌∙◌}
use mathlib.Core.Bool.{not}
use native.Mathlib.Omega.{arith}
use lib.IntN.{pos}
use lib.ListN.{get_or}
use borrow.Author.Rules.{rules}
use Rattle.sheet.proofs.All.{true-and, first_fails_lem, rest_fails}
use Rattle.machine.specs.State.{word_of, telegram_in}
use Rattle.engine_ints.proofs.Words.{same_bits}
use Rattle.engine_rows.proofs.Laws.{port-inside, port-outside}
use Rattle.engine_searching.proofs.goes.Goals as goal
use Rattle.engine_searching.proofs.goes.Goals.{then-st-at, else-st-at}

pub returns-then-st-at-2 : goal.returns-then-st-at-2
unfolding telegram_in word_of
returns-then-st-at-2 c = let st = c.args.st.now in let at = c.args.at in
    elim c.if-st-at.branch [
      | then-st-at w ↦ same_bits (get_or st (at + 1) (pos 0)) _ (record { sfits = search rules }) c.ranges.r ∙ sym (true-and _ _ (ap not (port-outside (get_or st (at + 2) (pos 0)) (record { sfits = search rules }) w.if-st-at.true)) ∙ true-and _ _ (sym (same_bits (get_or st at (pos 0)) _ (record { sfits = search rules }) c.ranges.a) ∙ sym w.value-is ∙ c.if-st-at-2.true))
      | else-st-at w ↦ absurd (grind arith)
    ]

pub returns-else-st-at-2 : goal.returns-else-st-at-2
unfolding telegram_in word_of
returns-else-st-at-2 c = let st = c.args.st.now in let at = c.args.at in
    c.if-st-at-2.false ∙ elim c.if-st-at.branch [
      | then-st-at w ↦ rest_fails _ _ (first_fails_lem _ _ (sym (same_bits (get_or st at (pos 0)) _ (record { sfits = search rules }) c.ranges.a) ∙ sym w.value-is ∙ c.if-st-at-2.false))
      | else-st-at w ↦ first_fails_lem _ _ (ap not (port-inside (get_or st (at + 2) (pos 0)) (record { sfits = search rules }) w.if-st-at.false))
    ]
