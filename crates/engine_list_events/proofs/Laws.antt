-- A list in words, event by event.
use Rattle.std.specs.Prelude.{Some, None}
use Prim.Native.Nat.{ℕ, suc, ◌+◌, ◌*◌, ◌-◌, ◌<◌, ◌≤◌}
use mathlib.Core.Path.{◌≡◌, refl, sym, ap, ◌∙◌}
use mathlib.Core.List.{List, [], ◌∷◌, ◌++◌, append_assoc, append-nil}
use mathlib.Core.Bool.{Bool, true, false}
use native.Mathlib.Omega.{arith}
use lib.ListN.{length, get_or, take}
use lib.Seq.{take_all}
use lib.Dec.{ltb, eqb}
use lib.IntN.{ℤ}
use Rattle.sheet.specs.Names.{head, step_limit}
use Rattle.sheet.specs.Sheet.{count_of, offset_of, record_at, record_of}
use Rattle.machine.specs.declared.Answer.{Answer}
use Rattle.sheet_rules.specs.Fields.{number_or0}
use Rattle.machine.specs.State.{put_words}
use Rattle.machine.specs.Play.{default_limit, limit_by, limit_of}
use Rattle.machine.specs.Lists.{Played, played, nowhere, then_played, after_answer, goes_on, events_of, EventGives}
use Rattle.sheet_rules.specs.declared.Checked.TheVariants.{Passed}
use Rattle.sheet_rules.specs.Check.{check_of}
use Rattle.machine.specs.Valid.{OfSheet}
use Rattle.machine_claim.proofs.Limit.{event-within}
use Rattle.machine_claim.proofs.Kept.{goes_on_is}
use Rattle.machine_lists.specs.Words.{event_at, events_from, words_of_answer, answer_words, answers_words, Written, written, unwritten, in_words}
use Rattle.engine_answers.proofs.Laws.{answer_length, front_put}

-- ---- an event's steps

pub within_limit : (s : List ℕ) (n : ℕ) → n ≡ limit_of s → (old ev : List ℤ) (a : Answer) (st : List ℤ) → EventGives s (limit_of s) old old ev a st → a.steps ≤ n
within_limit s n e old ev a st g = omega (arith, e, (event-within s old old ev).steps a st (sym g))

-- ---- a run in words, after words that stand before it

unfoldable pub behind : List ℤ → Written → Written
behind ws (written vs st) = written (ws ++ vs) st
behind ws unwritten = unwritten

behind-none : (w : Written) → behind [] w ≡ w
unfolding behind
behind-none (written vs st) = refl
behind-none unwritten = refl

behind-behind : (us vs : List ℤ) (w : Written) → behind us (behind vs w) ≡ behind (us ++ vs) w
unfolding behind
behind-behind us vs (written ws st) = ap (λ l. written l st) (sym (append_assoc us vs ws))
behind-behind us vs unwritten = refl

behind-answer : (a : Answer) (p : Played) → in_words (after_answer a p) ≡ behind (answer_words a) (in_words p)
unfolding behind in_words after_answer answers_words
behind-answer a (played answers st) = refl
behind-answer a nowhere = refl

module _ (s : List ℕ) (events : List ℤ) where
  -- the run from event i of count on
  abbrev pub rest : ℕ → ℕ → List ℤ → Written
  rest count i st = in_words (events_of s (limit_of s) st (events_from events (count - i) i))

  pub no_event_yet : (count : ℕ) (st answers : List ℤ) → in_words (events_of s (limit_of s) st (events_from events count 0)) ≡ behind (take (words_of_answer * 0) answers) (rest count 0 st)
  no_event_yet count st answers =
      let e : count ≡ count - 0 = omega arith in
      sym (behind-none (in_words (events_of s (limit_of s) st (events_from events count 0)))) ∙ ap (λ n. behind [] (in_words (events_of s (limit_of s) st (events_from events n 0)))) e

  one-event : check_of s ≡ Passed → (st ev : List ℤ) (evs : List (List ℤ)) (a : Answer) (new : List ℤ) → OfSheet s st → EventGives s (limit_of s) st st ev a new → in_words (events_of s (limit_of s) st (ev ∷ evs)) ≡ behind (answer_words a) (in_words (events_of s (limit_of s) new evs))
  unfolding events_of then_played
  one-event ok st ev evs a new p g =
      ap (λ w. in_words (then_played w (λ a new. after_answer a (events_of s (limit_of s) (goes_on a st new) evs)))) (sym g)
      ∙ ap (λ st. in_words (after_answer a (events_of s (limit_of s) st evs))) (goes_on_is s ok st ev a new p g)
      ∙ behind-answer a (events_of s (limit_of s) new evs)

  -- one event more
  pub event_more : check_of s ≡ Passed → (count i : ℕ) (st answers : List ℤ) (w : Written) → i < count → length answers ≡ words_of_answer * count → OfSheet s st → w ≡ behind (take (words_of_answer * i) answers) (rest count i st) → (ev : List ℤ) → ev ≡ event_at events i → (a : Answer) (new : List ℤ) → EventGives s (limit_of s) st st ev a new → (answers' : List ℤ) → answers' ≡ put_words answers (words_of_answer * i) (answer_words a) → w ≡ behind (take (words_of_answer * (i + 1)) answers') (rest count (i + 1) new)
  unfolding events_from
  event_more ok count i st answers w l m p h ev q a new g answers' e =
      let n : count - i ≡ suc (count - (i + 1)) = omega arith in
      let k : suc i ≡ i + 1 = omega arith in
      let front : take (words_of_answer * (i + 1)) answers' ≡ take (words_of_answer * i) answers ++ answer_words a = ap (take (words_of_answer * (i + 1))) e ∙ front_put answers (words_of_answer * i) (answer_words a) (words_of_answer * (i + 1)) (omega arith) (omega (arith, answer_length a)) in
      h
      ∙ ap (λ n. behind (take (words_of_answer * i) answers) (in_words (events_of s (limit_of s) st (events_from events n i)))) n
      ∙ ap (λ k. behind (take (words_of_answer * i) answers) (in_words (events_of s (limit_of s) st (event_at events i ∷ events_from events (count - (i + 1)) k)))) k
      ∙ ap (λ ev. behind (take (words_of_answer * i) answers) (in_words (events_of s (limit_of s) st (ev ∷ events_from events (count - (i + 1)) (i + 1))))) (sym q)
      ∙ ap (behind (take (words_of_answer * i) answers)) (one-event ok st ev (events_from events (count - (i + 1)) (i + 1)) a new p g)
      ∙ behind-behind (take (words_of_answer * i) answers) (answer_words a) (rest count (i + 1) new)
      ∙ ap (λ ws. behind ws (rest count (i + 1) new)) (sym front)

  pub all_events : (count i : ℕ) (st answers : List ℤ) (w : Written) → i ≤ count → count ≤ i → length answers ≡ words_of_answer * count → w ≡ behind (take (words_of_answer * i) answers) (rest count i st) → written answers st ≡ w
  unfolding behind events_from events_of in_words answers_words
  all_events count i st answers w l k m h =
      let n : count - i ≡ 0 = omega arith in
      let whole : take (words_of_answer * i) answers ≡ answers = take_all (words_of_answer * i) answers (omega arith) in
      sym (h ∙ ap (λ n. behind (take (words_of_answer * i) answers) (in_words (events_of s (limit_of s) st (events_from events n i)))) n ∙ ap (λ ws. written ws st) (append-nil (take (words_of_answer * i) answers) ∙ whole))
