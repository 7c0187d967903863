-- Events and answers of a list in words.
use Rattle.machine.specs.declared.Telegram.{Telegram}
use Rattle.std.specs.Prelude.{ℕ, zero, suc, ◌+◌, ◌*◌, ◌/◌, List, [], ◌∷◌, ◌++◌, true, false, length, take, drop, replicate, ℤ, pos, nat_abs, Option, Some, None}
use Rattle.machine.specs.declared.Answer.{Answer}
use Rattle.machine.specs.Values.{is_below, is_zero}
use Rattle.machine.specs.State.{word_of, telegram_in}
use Rattle.machine.specs.Play.{words_of_event}
use Rattle.machine.specs.Lists.{Played, played, nowhere}

-- ---- events: "An event is nine words"

abbrev pub event_at : List ℤ → ℕ → List ℤ
event_at ws i = take words_of_event (drop (words_of_event * i) ws)

-- n events from number i on
unfoldable pub events_from : List ℤ → ℕ → ℕ → List (List ℤ)
events_from ws zero i = []
events_from ws (suc n) i = event_at ws i ∷ events_from ws n (suc i)

abbrev pub events_in : List ℤ → List (List ℤ)
events_in ws = events_from ws (length ws / words_of_event) 0

-- ---- answers: "its number, the steps used, and the telegram handed outside where there is one"

abbrev pub words_of_answer : ℕ
words_of_answer = 11

-- 1 and the receiver, port, name and four data that were handed outside; or zeros
unfoldable pub handed_words : Option Telegram → List ℤ
handed_words None = replicate 8 (pos 0)
handed_words (Some t) = pos 1 ∷ t.receiver ∷ t.port ∷ t.name ∷ t.d0 ∷ t.d1 ∷ t.d2 ∷ t.d3 ∷ []

-- read again from those words: 1 stands where a telegram has its sender
abbrev pub handed_in : List ℤ → ℕ → Option Telegram
handed_in ws at = elim (is_zero (word_of ws at)) [ true ↦ None | false ↦ Some (telegram_in ws at) ]

-- number, steps, dropped, and what is handed
abbrev pub answer_words : Answer → List ℤ
answer_words a = pos a.number ∷ pos a.steps ∷ pos a.dropped ∷ handed_words a.handed

-- a word as a number below n, and 0 where it is none
abbrev pub number_below : ℕ → ℤ → ℕ
number_below n z = elim (is_below z n) [ true ↦ nat_abs z | false ↦ 0 ]

-- read again from those words: a number of a byte, of 31 bits, of a byte, and what is handed
abbrev pub answer_in : List ℤ → ℕ → Answer
answer_in ws at = record { number = number_below 256 (word_of ws at); steps = number_below 2147483648 (word_of ws (at + 1)); dropped = number_below 256 (word_of ws (at + 2)); handed = handed_in ws (at + 3) }

unfoldable pub answers_words : List Answer → List ℤ
answers_words [] = []
answers_words (a ∷ answers) = answer_words a ++ answers_words answers

-- a run in words: its answers', and the state's; or the machine is stuck
pub data Written : Type 0 where
  written : List ℤ → List ℤ → Written
  unwritten : Written

unfoldable pub in_words : Played → Written
in_words (played answers st) = written (answers_words answers) st
in_words nowhere = unwritten
