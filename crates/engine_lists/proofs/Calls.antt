-- What a list's call comes to after its start.
use Prim.Native.Nat.{ℕ}
use mathlib.Core.Path.{◌≡◌, refl, sym, ap, ◌∙◌}
use mathlib.Core.List.{List, []}
use mathlib.Core.Bool.{true, false}
use lib.ListN.{length}
use lib.Dec.{eqb}
use lib.IntN.{ℤ}
use borrow.Author.Tests.{eqb-true, eq-eqb, ne_eqb}
use Rattle.machine.specs.declared.Answer.{Answer}
use Rattle.sheet_rules.specs.declared.Checked.TheVariants.{Passed}
use Rattle.machine.specs.State.{state_length}
use Rattle.machine.specs.Play.{limit_of}
use Rattle.sheet_rules.specs.Check.{check_of}
use Rattle.machine.specs.Lists.{Played, played, nowhere, after_answer, events_of, StartGives}
use Rattle.machine_claim.proofs.Runs.{play_is}
use Rattle.machine_lists.specs.Words.{events_in, answers_words, Written, written, unwritten, in_words}
use Rattle.machine_lists.specs.ListCall.{Listed, listed, unlisted, whole_events, list_of, list_call}
use Rattle.machine_lists.proofs.Calls.{whole-list}

module _ (s : List ℕ) (events st spare answers : List ℤ) (ok : check_of s ≡ Passed) (h : eqb (length st) (state_length s) ≡ true) (k : eqb (length spare) (state_length s) ≡ true) (w : whole_events events answers ≡ true) (a : Answer) (first : List ℤ) (g : StartGives s (limit_of s) st a first) where
  begun_list : list_call s (limit_of s) events st spare answers ≡ list_of answers (after_answer a (elim (eqb a.number 0) [ true ↦ events_of s (limit_of s) first (events_in events) | false ↦ played [] first ]))
  begun_list = whole-list s events st spare answers ok h k w ∙ ap (list_of answers) (play_is s ok st (eqb-true _ _ h) a first g (events_in events))

  pub refused-list : (a.number ≡ 0 → ⊥) → listed a first answers ≡ list_call s (limit_of s) events st spare answers
  unfolding list_of after_answer
  refused-list z = sym (begun_list ∙ rw (ne_eqb a.number 0 z) (ap (λ b. listed a first (elim b as (λ b. List ℤ) [ true ↦ answers_words [] | false ↦ answers ])) (ne_eqb a.number 0 z)))

  -- the events' words and the last state, with start's answer
  pub played-list : a.number ≡ 0 → (ws last : List ℤ) → written ws last ≡ in_words (events_of s (limit_of s) first (events_in events)) → listed a last ws ≡ list_call s (limit_of s) events st spare answers
  unfolding list_of after_answer in_words
  played-list z ws last e = ap to_listed e ∙ same (events_of s (limit_of s) first (events_in events)) ∙ sym (begun_list ∙ rw (eq-eqb a.number 0 z) refl)
    where
      to_listed : Written → Listed
      to_listed (written ws st) = listed a st ws
      to_listed unwritten = unlisted

      same : (p : Played) → to_listed (in_words p) ≡ list_of answers (after_answer a p)
      same (played rest st) = ap (λ b. listed a st (elim b as (λ b. List ℤ) [ true ↦ answers_words rest | false ↦ answers ])) (sym (eq-eqb a.number 0 z))
      same nowhere = refl
