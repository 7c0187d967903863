-- What a list's call comes to, path by path.
use Rattle.std.specs.Prelude.{None}
use Prim.Native.Nat.{ℕ, ◌*◌, ◌/◌, ◌%◌}
use mathlib.Core.Path.{◌≡◌, refl, sym, ap, ◌∙◌}
use mathlib.Core.List.{List}
use mathlib.Core.Bool.{Bool, true, false}
use lib.ListN.{length}
use lib.Dec.{eqb}
use lib.IntN.{ℤ}
use borrow.Author.Tests.{eqb-true, eq-eqb}
use Rattle.sheet.specs.All.{◌and◌}
use Rattle.sheet.proofs.All.{and-true, and_second, false-and, and-false}
use Rattle.machine.specs.declared.Answer.{Answer}
use Rattle.sheet_rules.specs.declared.Checked.TheVariants.{Passed, Shape, Static}
use Rattle.machine.specs.State.{state_length}
use Rattle.machine.specs.Play.{answer, words_of_event, limit_of}
use Rattle.sheet_rules.specs.Check.{check_of}
use Rattle.machine.specs.Lists.{play_of}
use Rattle.machine_lists.specs.Words.{words_of_answer, events_in}
use Rattle.machine_lists.specs.ListCall.{Listed, listed, turned_down, whole_events, list_of, list_call}

-- ---- the lengths of events and answers

module _ (events answers : List ℤ) where
  pub whole_events_lem : length events % words_of_event ≡ 0 → length answers ≡ words_of_answer * (length events / words_of_event) → whole_events events answers ≡ true
  unfolding whole_events
  whole_events_lem u v = and-true _ _ (eq-eqb (length events % words_of_event) 0 u) (eq-eqb (length answers) (words_of_answer * (length events / words_of_event)) v)

  -- what a test of both lengths tells
  pub whole-told : (b t : Bool) → b ≡ (eqb (length events % words_of_event) 0 and eqb (length answers) (words_of_answer * (length events / words_of_event))) → b ≡ t → whole_events events answers ≡ t
  unfolding whole_events
  whole-told b t d h = sym d ∙ h

  pub answers_room : whole_events events answers ≡ true → length answers ≡ words_of_answer * (length events / words_of_event)
  unfolding whole_events
  answers_room h = eqb-true _ _ (and_second _ _ h)

-- ---- the call

module _ (s : List ℕ) (events st spare answers : List ℤ) where
  abbrev called : Listed
  called = list_call s (limit_of s) events st spare answers

  down : (n : ℕ) (a : Answer) → a ≡ answer n 0 None → called ≡ turned_down n st answers → listed a st answers ≡ called
  down n a e h = ap (λ a. listed a st answers) e ∙ sym h

  pub shape-list : (a : Answer) → a ≡ answer 1 0 None → check_of s ≡ Shape → listed a st answers ≡ called
  unfolding list_call
  shape-list a e h = down 1 a e (rw (list_call, h) refl)

  pub static-list : (a : Answer) → a ≡ answer 2 0 None → check_of s ≡ Static → listed a st answers ≡ called
  unfolding list_call
  static-list a e h = down 2 a e (rw (list_call, h) refl)

  module _ (ok : check_of s ≡ Passed) where
    pub state-long : (a : Answer) → a ≡ answer 3 0 None → eqb (length st) (state_length s) ≡ false → listed a st answers ≡ called
    unfolding list_call
    state-long a e h = down 3 a e (rw (list_call, ok, false-and _ (eqb (length spare) (state_length s)) h) refl)

    pub spare-long : (a : Answer) → a ≡ answer 3 0 None → eqb (length spare) (state_length s) ≡ false → listed a st answers ≡ called
    unfolding list_call
    spare-long a e h = down 3 a e (rw (list_call, ok, and-false (eqb (length st) (state_length s)) _ h) refl)

    module _ (h : eqb (length st) (state_length s) ≡ true) (k : eqb (length spare) (state_length s) ≡ true) where
      fitting : called ≡ elim (whole_events events answers) [ true ↦ list_of answers (play_of s (limit_of s) (events_in events)) | false ↦ turned_down 4 st answers ]
      unfolding list_call
      fitting = rw (list_call, ok, and-true _ _ h k) refl

      pub list-long : (a : Answer) → a ≡ answer 4 0 None → whole_events events answers ≡ false → listed a st answers ≡ called
      list-long a e q = down 4 a e (fitting ∙ rw q refl)

      pub whole-list : whole_events events answers ≡ true → called ≡ list_of answers (play_of s (limit_of s) (events_in events))
      whole-list w = fitting ∙ rw w refl
