-- "So any sheet with 0, rewritten like that, must give the answers, steps and states that it gave with 0 until then."
use Rattle.std.specs.Prelude.{ℕ, ◌≡◌, List, ℤ}
use Rattle.sheet_rules.specs.Check.{check_call}
use Rattle.sheet_limits.specs.ButLimit.{with_limit}
use Rattle.machine.specs.Play.{written_limit, limit_by, limit_of}
use Rattle.machine_words.specs.Words.{Bytes, Words}
use Rattle.machine_claim.specs.Claim.{Engine, MeetsBy, Meets, Call, AllWords, run_of_engine}
use Rattle.machine_lists.specs.ListCall.{list_call}

-- what a limit of 0 meant until it became 2,000
abbrev pub former_limit : ℕ
former_limit = 10000

-- "their offices rewrite them with f3 = 10,000": the same bytes but for these two
abbrev pub rewritten : List ℕ → List ℕ
rewritten s = with_limit former_limit s

-- the desk of before on a sheet, and the desk of today on the sheet rewritten; "Runs that are compared .. get equal lent states, also for the result".
-- States and events are words, as compiled code gets them
pub record Kept (before today : Engine) (s : List ℕ) : Type 0 where
  pub check : check_call s ≡ check_call (rewritten s)
  -- answer, steps, what is handed outside, and the result state, whatever was lent
  pub start : (lent : List ℤ) → Words lent → before.start s lent ≡ today.start (rewritten s) lent
  pub event : (old lent ev : List ℤ) → Words old → Words lent → Words ev → before.event s old lent ev ≡ today.event (rewritten s) old lent ev
  -- start and a whole list of events, each with the state lent for its result: every answer, and the state after the list
  pub list : (lent : List ℤ) → Words lent → (calls : List Call) → AllWords calls → run_of_engine before s lent calls ≡ run_of_engine today (rewritten s) lent calls
  -- and what `play` gives of a list
  pub play : (events lent spare room : List ℤ) → list_call s (limit_by former_limit s) events lent spare room ≡ list_call (rewritten s) (limit_of (rewritten s)) events lent spare room

-- for every sheet, of whatever bytes, whose f3 is 0, passed or not: where no head is there, no f3 is
abbrev pub EveryRewritten : Type 0
EveryRewritten = (before today : Engine) → MeetsBy former_limit before → Meets today → (s : List ℕ) → Bytes s → written_limit s ≡ 0 → Kept before today s

-- it speaks of something: there is an engine that meets the contracts of before
abbrev pub SomeFormer : Type 0
SomeFormer = (e : Engine) × MeetsBy former_limit e
