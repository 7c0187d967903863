-- "Demand 3 makes one claim about the whole list", said of what playing a list returns.
use Rattle.std.specs.Prelude.{ℕ, ◌*◌, ◌/◌, ◌%◌, ◌≤◌, ◌≡◌, List, ◌∷◌, length, replicate, ℤ, pos}
use Rattle.machine.specs.declared.Answer.{Answer}
use Rattle.sheet_rules.specs.declared.Checked.TheVariants.{Passed}
use Rattle.sheet_rules.specs.Fields.{elements_of}
use Rattle.machine.specs.State.{state_length}
use Rattle.machine.specs.Valid.{OfSheet}
use Rattle.machine.specs.Play.{words_of_event, limit_of}
use Rattle.sheet_rules.specs.Check.{check_of}
use Rattle.machine.specs.Lists.{played, play_of}
use Rattle.machine_promise.specs.Promise.{OneOf, AllAnswered, OneReaction}
use Rattle.machine_claim.specs.Claim.{AllWithin}
use Rattle.machine_lists.specs.Words.{words_of_answer, events_in, answers_words}
use Rattle.machine_lists.specs.ListCall.{listed, list_call}

-- after a start of 0: `st` and `answers` are what was left
pub record Held (s : List ℕ) (events : List ℤ) (a : Answer) (st answers : List ℤ) : Type 0 where
  -- an answer for each event, and `answers` is exactly their words
  pub given : List Answer
  pub each : length given ≡ length events / words_of_event
  pub words : answers ≡ answers_words given
  -- the machine, "fed with the sheet and the events alone", gives start's answer and these, whole, and has this state, word for word
  pub machine : play_of s (limit_of s) (events_in events) ≡ played (a ∷ given) st
  -- each is 0 or 4 to 12 and has at most the limit's steps
  pub answered : AllAnswered given
  pub within : AllWithin (limit_of s) given
  -- "the state is then of the sheet"
  pub of_sheet : OfSheet s st
  -- every internal name that waits or is armed has one reaction in its element's chart
  pub reactions : OneReaction s st

pub record Demand (s : List ℕ) (events room : List ℤ) (a : Answer) (st answers : List ℤ) : Type 0 where
  -- start gives 0 or 6 to 12, with at most a limit's steps for each bound element
  pub start : OneOf 6 a.number
  pub start_within : a.steps ≤ elements_of s * limit_of s
  pub list : a.number ≡ 0 → Held s events a st answers
  -- after another start the state "is all zeros", and the room for answers is untouched
  pub zeros : (a.number ≡ 0 → ⊥) → st ≡ replicate (state_length s) (pos 0)
  pub untouched : (a.number ≡ 0 → ⊥) → answers ≡ room

-- for every sheet that check passes, all events and every state and room of fitting length, and whatever meets the contract of `play`
abbrev pub EveryPlay : Type 0
EveryPlay = (s : List ℕ) (events lent spare room : List ℤ) → check_of s ≡ Passed → length lent ≡ state_length s → length spare ≡ state_length s → length events % words_of_event ≡ 0 → length room ≡ words_of_answer * (length events / words_of_event) → (a : Answer) (st answers : List ℤ) → listed a st answers ≡ list_call s (limit_of s) events lent spare room → Demand s events room a st answers
