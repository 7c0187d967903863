-- The claim about whole lists of events, of any engine that meets the contracts of start and event.
use Rattle.std.specs.Prelude.{ℕ, ◌*◌, ◌≤◌, ◌≡◌, List, [], ◌∷◌, map, true, false, length, replicate, eqb, ℤ, pos}
use Rattle.machine.specs.declared.Answer.{Answer}
use Rattle.sheet_rules.specs.declared.Checked.TheVariants.{Passed}
use Rattle.sheet_rules.specs.Fields.{elements_of}
use Rattle.machine.specs.State.{state_length}
use Rattle.machine.specs.Valid.{OfSheet}
use Rattle.machine.specs.Play.{default_limit, limit_of, limit_by}
use Rattle.sheet_rules.specs.Check.{check_of}
use Rattle.machine.specs.Lists.{Played, played, after_answer, goes_on, play_of, StartGives, EventGives}
use Rattle.machine_words.specs.Words.{Bytes, Words}
use Rattle.machine_promise.specs.Promise.{OneOf, AllAnswered, OneReaction}

-- ---- an engine

-- what a call leaves: its answer, and the words of the result state
pub record Returned : Type 0 where
  pub answer : Answer
  pub state : List ℤ

-- start on a sheet and a lent result state; event on a sheet, an old state, a lent result state and an event's words
pub record Engine : Type 0 where
  pub start : List ℕ → List ℤ → Returned
  pub event : List ℕ → List ℤ → List ℤ → List ℤ → Returned

-- the contracts of start and event, by a machine with that default limit: whatever the bytes, the words and their number. That is what the compiled pair gets
pub record MeetsBy (default : ℕ) (e : Engine) : Type 0 where
  pub start : (s : List ℕ) → Bytes s → (lent : List ℤ) → Words lent → StartGives s (limit_by default s) lent (e.start s lent).answer (e.start s lent).state
  pub event : (s : List ℕ) → Bytes s → (old lent ev : List ℤ) → Words old → Words lent → Words ev → EventGives s (limit_by default s) old lent ev (e.event s old lent ev).answer (e.event s old lent ev).state

abbrev pub Meets : Engine → Type 0
Meets e = MeetsBy default_limit e

-- ---- a run made of its calls

-- an event's words, and the result state that is lent for it
pub record Call : Type 0 where
  pub words : List ℤ
  pub lent : List ℤ

abbrev pub events_called : List Call → List (List ℤ)
events_called calls = map (λ c. c.words) calls

-- every result state is lent at its length
abbrev pub AllLent : List ℕ → List Call → Type 0
AllLent s [] = Unit {0}
AllLent s (c ∷ calls) = (length c.lent ≡ state_length s) × AllLent s calls

-- every event, and every state that is lent, is words
abbrev pub AllWords : List Call → Type 0
AllWords [] = Unit {0}
AllWords (c ∷ calls) = Words c.words × Words c.lent × AllWords calls

-- "Each event gets the same sheet .. and the state that the last accepted one (or start) left, unchanged in between."
unfoldable pub called_from : Engine → List ℕ → List ℤ → List Call → Played
called_from e s st [] = played [] st
called_from e s st (c ∷ calls) = let r = e.event s st c.lent c.words in after_answer r.answer (called_from e s (goes_on r.answer st r.state) calls)

-- start, and after answer 0 the events
unfoldable pub run_of_engine : Engine → List ℕ → List ℤ → List Call → Played
run_of_engine e s lent calls = let r = e.start s lent in after_answer r.answer (elim (eqb r.answer.number 0) [ true ↦ called_from e s r.state calls | false ↦ played [] r.state ])

-- ---- the claim

abbrev pub AllWithin : ℕ → List Answer → Type 0
AllWithin m [] = Unit {0}
AllWithin m (a ∷ rest) = (a.steps ≤ m) × AllWithin m rest

pub record Claim (e : Engine) (s : List ℕ) (lent : List ℤ) (calls : List Call) : Type 0 where
  -- start's answer, the events' answers and the state after the list
  pub first : Answer
  pub answers : List Answer
  pub last : List ℤ
  -- they are what the engine's run comes to
  pub run : run_of_engine e s lent calls ≡ played (first ∷ answers) last
  -- "The machine is fed with the sheet and the events alone and keeps its own state. Compared are each answer, whole, and after the list the two states, word for word": it isn't stuck and comes to the very same
  pub machine : play_of s (limit_of s) (events_called calls) ≡ played (first ∷ answers) last
  -- start gives 0 or 6 to 12
  pub start : OneOf 6 first.number
  -- each event gives 0 or 4 to 12, and after a start of 0 each has its answer
  pub answered : AllAnswered answers
  pub each : first.number ≡ 0 → length answers ≡ length calls
  -- after another start no event was played, and "its state is all zeros"
  pub refused : (first.number ≡ 0 → ⊥) → answers ≡ []
  pub zeros : (first.number ≡ 0 → ⊥) → last ≡ replicate (state_length s) (pos 0)
  -- an event has at most as many steps as the limit, start at most a limit for each bound element
  pub within : AllWithin (limit_of s) answers
  pub start_within : first.steps ≤ elements_of s * limit_of s
  -- "the state is then of the sheet"
  pub of_sheet : first.number ≡ 0 → OfSheet s last
  -- every internal name that waits or is armed has one reaction in its element's chart
  pub reactions : first.number ≡ 0 → OneReaction s last

-- for every engine that meets the contracts, every sheet that check passes, every list of events of any number of words, and states lent at their length.
-- The states between the calls are the engine's own, and nothing is asked of them
abbrev pub EveryList : Type 0
EveryList = (e : Engine) → Meets e → (s : List ℕ) → Bytes s → check_of s ≡ Passed → (lent : List ℤ) → Words lent → length lent ≡ state_length s → (calls : List Call) → AllWords calls → AllLent s calls → Claim e s lent calls

-- it speaks of something: there is an engine that meets the contracts (the machine's own calls, which never end stuck)
abbrev pub SomeEngine : Type 0
SomeEngine = (e : Engine) × Meets e
