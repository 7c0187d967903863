-- What playing a whole list comes to.
use Rattle.std.specs.Prelude.{ℕ, ◌*◌, ◌/◌, ◌%◌, List, [], ◌∷◌, Bool, true, false, length, eqb, ℤ, None}
use Rattle.sheet.specs.All.{◌and◌}
use Rattle.sheet_rules.specs.declared.Checked.TheVariants.{Passed, Shape, Static}
use Rattle.machine.specs.declared.Answer.{Answer}
use Rattle.machine.specs.State.{state_length}
use Rattle.machine.specs.Play.{answer, words_of_event}
use Rattle.sheet_rules.specs.Check.{check_of}
use Rattle.machine.specs.Lists.{Played, played, nowhere, play_of}
use Rattle.machine_lists.specs.Words.{words_of_answer, events_in, answers_words}

-- start's answer, and what the state and the answers then hold; or the machine is stuck
pub data Listed : Type 0 where
  listed : Answer → List ℤ → List ℤ → Listed
  unlisted : Listed

-- nothing is played: steps 0, state and answers untouched
abbrev pub turned_down : ℕ → List ℤ → List ℤ → Listed
turned_down n st answers = listed (answer n 0 None) st answers

-- nine words for each event, and room for eleven of each answer
unfoldable pub whole_events : List ℤ → List ℤ → Bool
whole_events events answers = eqb (length events % words_of_event) 0 and eqb (length answers) (words_of_answer * (length events / words_of_event))

-- a run as it is left: the state that the last accepted call left, and after a start of 0 every event's answer in words; after another start the answers are untouched
unfoldable pub list_of : List ℤ → Played → Listed
list_of answers (played (a ∷ rest) st) = listed a st (elim (eqb a.number 0) [ true ↦ answers_words rest | false ↦ answers ])
list_of answers (played [] st) = unlisted
list_of answers nowhere = unlisted

-- 1 and 2 as check gives them, 3 for a state's length, 4 for the length of events or answers, in that order; otherwise the machine's own run. What `spare` then holds is open: it is room to work in. Within a limit
unfoldable pub list_call : List ℕ → ℕ → List ℤ → List ℤ → List ℤ → List ℤ → Listed
list_call s limit events st spare answers =
    elim (check_of s) [
      | Shape ↦ turned_down 1 st answers
      | Static ↦ turned_down 2 st answers
      | Passed ↦ elim (eqb (length st) (state_length s) and eqb (length spare) (state_length s)) [
        | true ↦ elim (whole_events events answers) [ true ↦ list_of answers (play_of s limit (events_in events)) | false ↦ turned_down 4 st answers ]
        | false ↦ turned_down 3 st answers
      ]
    ]
