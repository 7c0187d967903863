use Prim.Native.Nat.{◌+◌}
use mathlib.Core.Path.{sym, ◌∙◌}
use native.Mathlib.Omega.{arith}
use lib.IntN.{pos, negsuc}
use lib.ListN.{get_or}
use borrow.Author.Rules.{rules}
use Rattle.sheet.proofs.All.{true-and, first_fails_lem, rest_fails}
use Rattle.machine.specs.State.{word_of, telegram_in, same_class}
use Rattle.engine_ints.proofs.Words.{same_bits}
use Rattle.engine_rows.proofs.Laws.{bits_same, bits_differ}
use Rattle.engine_classes.proofs.Laws.{classes_alike}
use Rattle.engine_classes.proofs.same_class.Goals as goal
use Rattle.engine_classes.proofs.same_class.Goals.{then-t-st, else-t-st}

pub returns-then-t-st-2 : goal.returns-then-t-st-2
unfolding same_class telegram_in word_of
returns-then-t-st-2 c = let st = c.args.st.now in let at = c.args.at in let t = c.args.t in
    elim c.if-t-st.branch [
      | then-t-st w ↦ rw (same_bits t.port (negsuc 0) (record { sfits = search rules }) (record { sfits = omega arith }), same_bits (get_or st (at + 2) (pos 0)) (negsuc 0) (record { sfits = search rules }) (record { sfits = omega arith }))
          (classes_alike t (telegram_in st at)
          ∙ sym (true-and _ _ (bits_same {z = t.sender} {w = get_or st at (pos 0)} (record { sfits = search rules }) (record { sfits = search rules }) w.if-t-st.true)
          ∙ true-and _ _ (sym (same_bits t.receiver (get_or st (at + 1) (pos 0)) (record { sfits = search rules }) (record { sfits = search rules })) ∙ sym w.value-is ∙ c.if-t-st-2.true)))
      | else-t-st w ↦ absurd (grind arith)
    ]

pub returns-else-t-st-2 : goal.returns-else-t-st-2
unfolding same_class telegram_in word_of
returns-else-t-st-2 c = let st = c.args.st.now in let at = c.args.at in let t = c.args.t in
    c.if-t-st-2.false ∙ elim c.if-t-st.branch [
      | then-t-st w ↦ rest_fails _ _ (first_fails_lem _ _ (sym (same_bits t.receiver (get_or st (at + 1) (pos 0)) (record { sfits = search rules }) (record { sfits = search rules })) ∙ sym w.value-is ∙ c.if-t-st-2.false))
      | else-t-st w ↦ first_fails_lem _ _ (bits_differ {z = t.sender} {w = get_or st at (pos 0)} (record { sfits = search rules }) (record { sfits = search rules }) w.if-t-st.false)
    ]
