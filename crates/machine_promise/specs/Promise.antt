-- What is promised of the machine on a sheet that the rules pass.
use Rattle.std.specs.Prelude.{ℕ, ◌+◌, ◌<◌, ◌≤◌, ◌≡◌, List, [], ◌∷◌, ◌⊎◌, true, false, length, eqb, ℤ, nat_abs, Some}
use Rattle.sheet.specs.declared.Record.{Record}
use Rattle.sheet.specs.Names.{bodies, chart_variables, chart_bodies, timer_type, is_clock}
use Rattle.sheet.specs.Sheet.{record_of}
use Rattle.machine.specs.declared.Answer.{Answer}
use Rattle.sheet_rules.specs.declared.Checked.TheVariants.{Passed}
use Rattle.sheet_rules.specs.Fields.{holds, number_or0, count_below, type_at}
use Rattle.sheet_rules.specs.Types.{reacts_to}
use Rattle.machine.specs.Values.{is_zero, chart_of}
use Rattle.machine.specs.State.{cell_of, last_refusal, state_length, word_of, waiting, telegram_of, is_internal}
use Rattle.machine.specs.Valid.{OfSheet}
use Rattle.machine.specs.Play.{Outcome, ended, stuck, start_call, event_call, limit_of}
use Rattle.sheet_rules.specs.Check.{check_of}
use Rattle.machine.specs.Lists.{Played, played, nowhere, events_of}

-- ---- answers

-- 0, or a number from a to 12
abbrev pub OneOf : ℕ → ℕ → Type 0
OneOf a n = (n ≡ 0) ⊎ ((a ≤ n) × (n ≤ last_refusal))

-- every answer of a list is 0 or from 4 to 12
abbrev pub AllAnswered : List Answer → Type 0
AllAnswered [] = Unit {0}
AllAnswered (a ∷ rest) = OneOf 4 a.number × AllAnswered rest

-- ---- "an internal name that waits or is armed has one reaction in its element's chart"

-- how many bodies of element e's chart react to internal name n
unfoldable pub reactions_to : List ℕ → ℕ → ℕ → ℕ
reactions_to s e n = number_or0 (chart_of s e) (λ c. count_below (chart_bodies c).count (λ j. holds (record_of s bodies ((chart_bodies c).first + j)) (reacts_to n)))

-- the first word of clock j of element e, whose chart is c
abbrev pub clock_at : List ℕ → ℕ → Record → ℕ → ℕ
clock_at s e c j = cell_of s e c j 0

-- variable j of element e, whose chart is c, is a Timeout or a Cycler, and runs
pub record Armed (s : List ℕ) (st : List ℤ) (e : ℕ) (c : Record) (j : ℕ) : Type 0 where
  pub chart : chart_of s e ≡ Some c
  pub variable : j < (chart_variables c).count
  pub clock : is_clock (type_at s ((chart_variables c).first + j)) ≡ true
  pub no_timer : eqb (type_at s ((chart_variables c).first + j)) timer_type ≡ false
  pub runs : is_zero (word_of st (clock_at s e c j)) ≡ false

-- its name is the fourth word of its cell
abbrev pub armed_name : List ℕ → List ℤ → ℕ → Record → ℕ → ℕ
armed_name s st e c j = nat_abs (word_of st (clock_at s e c j + 3))

pub record OneReaction (s : List ℕ) (st : List ℤ) : Type 0 where
  pub waits : (j : ℕ) → j < waiting st → is_internal (telegram_of s st j) ≡ true → reactions_to s (nat_abs (telegram_of s st j).receiver) (nat_abs (telegram_of s st j).name) ≡ 1
  pub armed : (e : ℕ) (c : Record) (j : ℕ) → Armed s st e c j → reactions_to s e (armed_name s st e c j) ≡ 1

-- ---- start, an event, a list

-- start isn't stuck; it is 0 or 6 to 12; after 0 its state is of the sheet
abbrev pub StartKept : List ℕ → Outcome → Type 0
StartKept s (ended a st) = OneOf 6 a.number × (a.number ≡ 0 → OfSheet s st)
StartKept s stuck = ⊥

-- an event isn't stuck; it is 0 or 4 to 12; after 0 the new state is of the sheet, after another answer the state is the old one
abbrev pub EventKept : List ℕ → List ℤ → Outcome → Type 0
EventKept s old (ended a st) = OneOf 4 a.number × (a.number ≡ 0 → OfSheet s st) × ((a.number ≡ 0 → ⊥) → st ≡ old)
EventKept s old stuck = ⊥

-- a list isn't stuck; every answer is 0 or 4 to 12; the last state is of the sheet, and every internal name that waits or is armed has one reaction
abbrev pub ListKept : List ℕ → Played → Type 0
ListKept s (played answers st) = AllAnswered answers × OfSheet s st × OneReaction s st
ListKept s nowhere = ⊥

pub record Promise (s : List ℕ) : Type 0 where
  pub start : (lent : List ℤ) → length lent ≡ state_length s → StartKept s (start_call s (limit_of s) lent)
  pub event : (old ev : List ℤ) → OfSheet s old → EventKept s old (event_call s (limit_of s) old old ev)
  -- from an accepted start, the empty list too
  pub list : (lent : List ℤ) (a : Answer) (st : List ℤ) → start_call s (limit_of s) lent ≡ ended a st → length lent ≡ state_length s → a.number ≡ 0 → (evs : List (List ℤ)) → ListKept s (events_of s (limit_of s) st evs)

-- for every sheet that the rules pass
abbrev pub PassedKept : Type 0
PassedKept = (s : List ℕ) → check_of s ≡ Passed → Promise s
