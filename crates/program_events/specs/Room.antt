-- What is lent to play events as they come and to list their answers.
use Rattle.std.specs.Prelude.{ℕ, ◌+◌, ◌*◌, ◌<◌, ◌≤◌, ◌≡◌, List, length, ℤ}
use Rattle.machine.specs.Play.{words_of_event}
use Rattle.machine.specs.Valid.{OfSheet}
use Rattle.machine_lists.specs.Words.{words_of_answer}
use Rattle.program_input.specs.Input.{room_events, bytes_of_event}

abbrev pub room_text : ℕ
room_text = 24576

-- `count` events and their answers in words, before which `done` were listed, and room for text
pub record ListedRoom (ws room : List ℤ) (count done : ℕ) (out : List ℕ) : Type 0 where
  pub words : words_of_event * count ≤ length ws
  pub answers : words_of_answer * count ≤ length room
  pub number : done + count < 18446744073709551616
  pub text : length out ≡ room_text

-- a state of the sheet, a second one's room, `count` events that came, before which `done` were played, and room for as many as are taken at once
pub record RoundRoom (s : List ℕ) (st second : List ℤ) (events : List ℕ) (count : ℕ) (ws room : List ℤ) (done : ℕ) (out : List ℕ) : Type 0 where
  pub state : OfSheet s st
  pub spare : length second ≡ length st
  pub whole : bytes_of_event * count ≤ length events
  pub few : count ≤ room_events
  pub words : length ws ≡ room_events * words_of_event
  pub answers : length room ≡ room_events * words_of_answer
  pub number : done + count < 18446744073709551616
  pub text : length out ≡ room_text
