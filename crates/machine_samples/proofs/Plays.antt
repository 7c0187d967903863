-- What the samples about whole plays are made of: start as a call, events on the states that are left, sheets, states.
use Rattle.std.specs.Prelude.{None}
use Prim.Native.Nat.{ℕ, zero, suc, ◌+◌, ◌*◌, ◌-◌}
use mathlib.Core.List.{List, [], ◌∷◌, ◌++◌}
use lib.ListN.{replicate}
use lib.IntN.{ℤ, pos}
use Rattle.sheet_rules.proofs.Samples.{sheet_of, rec3, rec6, body}
use Rattle.machine.specs.State.{state_length, waiting}
use Rattle.machine.specs.Valid.{name_fits, reaction_awaits, zero_words, running_clock, clock_cell, cell_fits, variable_fits, element_fits, internal_fits, external_fits, telegram_fits, head_fits, cells_fit, waiting_fit, unused_zero, classes_fit, content_fits}
use Rattle.machine.specs.Play.{Outcome, ended, stuck, answer, rest_zero, well_formed, is_event, if_passed, start_call, event_call, limit_of}
use Rattle.machine.proofs.Samples.{event, words, sent, row}

-- a whole call, with every definition open
unfoldable pub start : List (List ℕ) → Outcome
unfolding event name_fits reaction_awaits zero_words running_clock clock_cell cell_fits variable_fits element_fits internal_fits external_fits telegram_fits head_fits
    cells_fit waiting_fit unused_zero classes_fit content_fits rest_zero well_formed is_event if_passed start_call event_call
start ss = start_call (sheet_of ss) (limit_of (sheet_of ss)) (replicate (state_length (sheet_of ss)) (pos 0))

-- what is answered, without a telegram handed outside
unfoldable pub answered : ℕ → ℕ → List ℤ → Outcome
answered number steps st = ended (answer number steps None) st

-- A play is start, then events, each on the state that the last one left, with a row for each
heard : Outcome → (List ℤ → List (List ℕ)) → List (List ℕ)
heard (ended a st) K = row a.number a.steps (waiting st) ∷ K st
heard stuck K = []

play_from : List (List ℕ) → List (List ℤ) → List ℤ → List (List ℕ)
play_from ss [] st = []
play_from ss (ev ∷ evs) st = heard (event ss st ev) (play_from ss evs)

unfoldable pub play : List (List ℕ) → List (List ℤ) → List (List ℕ)
unfolding start event row heard play_from words
play ss evs = heard (start ss) (play_from ss evs)

-- ---- clocks

-- one bound element with a clock of a type; its initial body arms it by an operator with a period and internal name 0, to which it reacts
unfoldable pub arming : ℕ → ℕ → ℕ → List (List ℕ)
arming type op period =
    rec3 3 2 2
    ∷ []
    ∷ rec3 type 0 0
    ∷ rec3 0 0 1
    ∷ rec6 0 0 0 1 0 3
    ∷ (body 0 0 1 ++ body 1 0 2 ++ body 3 0 3)
    ∷ (rec3 2 period 0 ++ rec3 op 0 0 ++ rec3 32 0 0 ++ rec3 32 0 0)
    ∷ rec3 0 0 0
    ∷ []

unfoldable pub timeout : ℕ → List (List ℕ)
timeout period = arming 5 36 period

unfoldable pub cycler : ℕ → List (List ℕ)
cycler period = arming 6 37 period

unfoldable pub slices : ℕ → List (List ℤ)
slices n = replicate n (words 5 0 0)

-- ---- telegrams

unfoldable pub copies : ℕ → List ℤ → List ℤ
copies zero ws = []
copies (suc n) ws = ws ++ copies n ws

-- a state in which n telegrams wait: its cells, the telegrams
unfoldable pub waits : ℕ → List ℤ → List ℤ → List ℤ
waits n cells telegrams = pos n ∷ replicate 7 (pos 0) ++ cells ++ telegrams ++ replicate (8 * (128 - n)) (pos 0)

-- n external components, and one bound element that reacts to external name 0 on port 0; nodes from 2 on are given, with the reaction's root
unfoldable pub reacts : ℕ → List ℕ → ℕ → List (List ℕ)
reacts n nodes root =
    rec3 (n + 1) n 2
    ∷ []
    ∷ []
    ∷ rec3 0 0 0
    ∷ rec6 0 0 0 0 0 3
    ∷ (body 0 0 0 ++ body 1 0 1 ++ body 2 0 root)
    ∷ (rec3 32 0 0 ++ rec3 32 0 0 ++ nodes)
    ∷ rec3 0 0 0
    ∷ []

-- name 0 to Log on port 0; the send is node n + 2
unfoldable pub sends : ℕ → List ℕ
sends n = rec3 4 0 0 ++ rec3 5 0 0 ++ rec3 34 n (n + 1)

unfoldable pub once : ℕ → List (List ℕ)
once n = reacts n (sends 2) 4

unfoldable pub twice : ℕ → List (List ℕ)
twice n = reacts n (sends 2 ++ sends 5 ++ rec3 43 4 7) 8

-- 16 from each of n components, from number a on, to element r
unfoldable pub sixteens : ℕ → ℕ → ℕ → List ℤ
sixteens zero a r = []
sixteens (suc n) a r = copies 16 (sent a r) ++ sixteens n (suc a) r

-- with eight external components 128 wait in classes of at most 16: 16 from each of 1 to 7 to element 8, n from Log, and more
unfoldable pub at_eight : ℕ → List ℤ → List ℤ
at_eight n more = sixteens 7 1 8 ++ copies n (sent 0 8) ++ more

-- one of them goes from element 8 to Log
unfoldable pub full : List ℤ
full = waits 128 [] (at_eight 15 (sent 8 0))
