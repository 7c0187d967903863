-- What is lent to play a list of events on from a state.
use Rattle.std.specs.Prelude.{ℕ, ◌*◌, ◌/◌, ◌≡◌, List, length, ℤ}
use Rattle.machine.specs.Play.{words_of_event}
use Rattle.machine_lists.specs.Words.{words_of_answer}
use Rattle.machine.specs.Valid.{OfSheet}

-- a state of the sheet, a second one's room, and words for the answer to each event
pub record Room (s : List ℕ) (events st second room : List ℤ) : Type 0 where
  pub state : OfSheet s st
  pub spare : length second ≡ length st
  pub answers : length room ≡ words_of_answer * (length events / words_of_event)
