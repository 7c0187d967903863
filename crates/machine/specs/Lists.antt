-- A whole list of events.
use Rattle.std.specs.Prelude.{List, [], ◌∷◌, true, false, ◌≡◌, replicate, eqb, ℤ, pos, ℕ}
use Rattle.machine.specs.declared.Answer.{Answer}
use Rattle.machine.specs.State.{state_length}
use Rattle.machine.specs.Play.{Outcome, ended, stuck, start_call, event_call}

-- What a list comes to: the answers in order and the state that the last accepted event left; or the machine is stuck.
pub data Played : Type 0 where
  played : List Answer → List ℤ → Played
  nowhere : Played

unfoldable pub then_played : Outcome → (Answer → List ℤ → Played) → Played
then_played (ended a st) K = K a st
then_played stuck K = nowhere

unfoldable pub after_answer : Answer → Played → Played
after_answer a (played answers st) = played (a ∷ answers) st
after_answer a nowhere = nowhere

-- "A list goes on from the last accepted state": "Accepted is answer 0"
unfoldable pub goes_on : Answer → List ℤ → List ℤ → List ℤ
goes_on a old new = elim (eqb a.number 0) [ true ↦ new | false ↦ old ]

-- "Each event gets the same sheet .. and the state that the last accepted one (or start) left": here it lends that state's words as the result too. Within a limit
unfoldable pub events_of : List ℕ → ℕ → List ℤ → List (List ℤ) → Played
events_of s limit st [] = played [] st
events_of s limit st (ev ∷ evs) = then_played (event_call s limit st st ev) (λ a new. after_answer a (events_of s limit (goes_on a st new) evs))

-- The machine's own run, "fed with the sheet and the events alone": start on a state of the right length, and after answer 0 the events.
unfoldable pub play_of : List ℕ → ℕ → List (List ℤ) → Played
play_of s limit evs = then_played (start_call s limit (replicate (state_length s) (pos 0))) (λ a st. after_answer a (elim (eqb a.number 0) [ true ↦ events_of s limit st evs | false ↦ played [] st ]))

-- ---- what calls of an engine give

-- start: the answer and the result state are those of the machine within that limit
abbrev pub StartGives : List ℕ → ℕ → List ℤ → Answer → List ℤ → Type 0
StartGives s limit lent a result = ended a result ≡ start_call s limit lent

-- event, on an old state
abbrev pub EventGives : List ℕ → ℕ → List ℤ → List ℤ → List ℤ → Answer → List ℤ → Type 0
EventGives s limit old lent ev a result = ended a result ≡ event_call s limit old lent ev
