-- No call takes more steps than its limits: whatever the sheet, an event at most one limit, start one for each bound element.
use Rattle.std.specs.Prelude.{Option, Some, None}
use Prim.Native.Nat.{ℕ, zero, suc, ◌+◌, ◌*◌, ◌-◌, ◌≤◌}
use mathlib.Core.Path.{◌≡◌, ap, subst}
use mathlib.Core.List.{List, [], ◌∷◌}
use mathlib.Core.Bool.{Bool, true, false}
use native.Mathlib.Nat.{le_refl, suc-mul}
use native.Mathlib.Omega.{arith}
use lib.ListN.{length, replicate}
use lib.Dec.{ltb, eqb}
use lib.IntN.{ℤ, pos, negsuc}
use Rattle.sheet.specs.declared.Record.{Record}
use Rattle.sheet.specs.All.{◌and◌}
use Rattle.machine.specs.declared.Answer.{Answer}
use Rattle.sheet_rules.specs.declared.Checked.{Checked}
use Rattle.sheet_rules.specs.declared.Checked.TheVariants.{Passed, Shape, Static}
use Rattle.machine.specs.declared.Ran.{Ran}
use Rattle.machine.specs.declared.Ran.TheVariants.{Done, Refused, Stuck}
use Rattle.machine.specs.declared.Telegram.{Telegram}
use Rattle.sheet_rules.specs.Fields.{holds, externals_of, elements_of}
use Rattle.sheet_rules.specs.Types.{reacts_to}
use Rattle.machine.specs.Values.{is_below}
use Rattle.machine.specs.State.{state_length, word_of, waiting, telegram_of, without_telegram, counted, appended, Changed, on, off, lost}
use Rattle.machine.specs.Valid.{content_fits}
use Rattle.machine.specs.Kinds as kind
use Rattle.machine.specs.Kinds.{Kind, kind_of}
use Rattle.machine.specs.Play.{Outcome, ended, stuck, answer, limit_of, is_initial, has_panic, reacts_on, ran_body, element_body, alone, event_end}
use Rattle.machine.specs.Play.{body_event, default_state, elements_there, start_next, start_from, started, oldest, goes_from}
use Rattle.machine.specs.Play.{inner_of, taking, brought, reacting, panicking, with_number, change_end, outside, bodies_there}
use Rattle.machine.specs.Play.{received, delivered, deliver, corrupt, inner, slice, is_event, telegram_of_event}
use Rattle.machine.specs.Play.{happens_as, happens, if_passed, start_call, event_call}
use Rattle.sheet_rules.specs.Check.{check_of}

-- an answer has at most m steps
pub record Within (m : ℕ) (w : Outcome) : Type 0 where
  pub steps : (a : Answer) (st : List ℤ) → w ≡ ended a st → a.steps ≤ m

steps_of : ℕ → Outcome → ℕ
steps_of m (ended a st) = a.steps
steps_of m stuck = m

-- ---- the ways that a call ends and branches

module _ {m : ℕ} where
  ends : (a : Answer) (st : List ℤ) → a.steps ≤ m → Within m (ended a st)
  unfolding steps_of
  ends a st h = record { steps = λ b st' e. subst (λ k. k ≤ m) (ap (steps_of m) e) h }

  -- an answer without steps
  at_once : (n : ℕ) (h : Option Telegram) (st : List ℤ) → Within m (ended (answer n 0 h) st)
  at_once n h st = ends (answer n 0 h) st (omega arith)

  stops : Within m stuck
  unfolding steps_of
  stops = record { steps = λ a st e. subst (λ k. k ≤ m) (ap (steps_of m) e) (le_refl m) }

  branch : (b : Bool) {v w : Outcome} → Within m v → Within m w → Within m (elim b [ true ↦ v | false ↦ w ])
  branch true h k = h
  branch false h k = k

  found : (f : Option Record) {v : Record → Outcome} {w : Outcome} → ((r : Record) → Within m (v r)) → Within m w → Within m (elim f [ Some r ↦ v r | None ↦ w ])
  found (Some r) h k = h r
  found None h k = k

  change_within : (old : List ℤ) (x : Changed) → Within m (change_end old x)
  unfolding change_end
  change_within old (on st) = at_once 0 None st
  change_within old (off n) = at_once n None old
  change_within old lost = stops

  number-within : (z : ℤ) (K : ℕ → Outcome) → ((n : ℕ) → Within m (K n)) → Within m (with_number z K)
  unfolding with_number
  number-within (pos n) K h = h n
  number-within (negsuc n) K h = stops

  passed-within : (k : Checked) (result : List ℤ) (K : List ℤ → Outcome) → Within m (K result) → Within m (if_passed k result K)
  unfolding if_passed
  passed-within Passed result K h = h
  passed-within Shape result K h = at_once 1 None result
  passed-within Static result K h = at_once 2 None result

module _ (s : List ℕ) where
  -- ---- an event

  end-within : (old : List ℤ) (r : Ran) (st : List ℤ) → Within (limit_of s) (event_end (limit_of s) old r st)
  unfolding event_end
  end-within old (Done l) st = ends (answer 0 (limit_of s - l) None) st (omega arith)
  end-within old (Refused n l) st = ends (answer n (limit_of s - l) None) old (omega arith)
  end-within old Stuck st = stops

  body-within : (old : List ℤ) (e : ℕ) (f : Option Record) (zs st : List ℤ) → Within (limit_of s) (body_event s (limit_of s) old e f zs st)
  body-within old e f zs st = let w = ran_body s (limit_of s) e f zs st in end-within old w.ran w.st

  reacting-within : (old : List ℤ) (e : ℕ) (f : Option Record) (t : Telegram) (st : List ℤ) → Within (limit_of s) (reacting s (limit_of s) old e f t st)
  unfolding reacting
  reacting-within old e f t st = branch (holds f (brought s t)) (body-within old e f (t.d0 ∷ t.d1 ∷ t.d2 ∷ t.d3 ∷ []) st) stops

  panicking-within : (old : List ℤ) (e : ℕ) (st : List ℤ) → Within (limit_of s) (panicking s (limit_of s) old e st)
  unfolding panicking
  panicking-within old e st = body-within old e (alone (element_body s e has_panic)) [] st

  received-within : (old : List ℤ) (t : Telegram) (st : List ℤ) (e p n : ℕ) → Within (limit_of s) (received s (limit_of s) old t st e p n)
  unfolding received
  received-within old t st e p n = found (element_body s e (reacts_on p n)) (λ b. reacting-within old e (Some b) t st) (branch (bodies_there s e) (panicking-within old e st) stops)

  delivered-within : (old : List ℤ) (t : Telegram) (st : List ℤ) → Within (limit_of s) (delivered s (limit_of s) old t st)
  unfolding delivered
  delivered-within old t st =
      branch (is_below t.receiver (externals_of s)) (at_once 0 (Some t) st)
      (number-within t.receiver _ (λ e. number-within t.port _ (λ p. number-within t.name _ (λ n. received-within old t st e p n))))

  taking-within : (st : List ℤ) (p : Telegram → Bool) (K : Telegram → List ℤ → Outcome) → ((t : Telegram) (st' : List ℤ) → Within (limit_of s) (K t st')) → Within (limit_of s) (taking s st p K)
  unfolding taking
  taking-within st p K k = branch (counted st) (branch (ltb (oldest s st p) (waiting st)) (k (telegram_of s st (oldest s st p)) (without_telegram s st (oldest s st p))) (at_once 5 None st)) stops

  kind-within : (st ev : List ℤ) (k : Kind) → Within (limit_of s) (happens_as s (limit_of s) st ev k)
  unfolding happens_as outside deliver corrupt inner slice
  kind-within st ev kind.outside = change_within st (appended s st (telegram_of_event ev))
  kind-within st ev kind.deliver = taking-within st (goes_from (word_of ev 1) (word_of ev 2)) (delivered s (limit_of s) st) (delivered-within st)
  kind-within st ev kind.corrupt = taking-within st (goes_from (word_of ev 1) (word_of ev 2)) _ (λ t st'. number-within (word_of ev 2) _ (λ e. panicking-within st e st'))
  kind-within st ev kind.inner = taking-within st (inner_of (word_of ev 2)) _ (λ t st'. number-within (word_of ev 2) _ (λ e. number-within t.name _ (λ n. reacting-within st e (element_body s e (reacts_to n)) t st')))
  kind-within st ev kind.slice = change_within st _
  kind-within st ev kind.no_kind = stops

  happens-within : (st ev : List ℤ) → Within (limit_of s) (happens s (limit_of s) st ev)
  unfolding happens
  happens-within st ev = kind-within st ev (kind_of (word_of ev 0))

  pub event-within : (old result ev : List ℤ) → Within (limit_of s) (event_call s (limit_of s) old result ev)
  unfolding event_call
  event-within old result ev =
      passed-within (check_of s) result _
      (branch (eqb (length old) (state_length s) and eqb (length result) (state_length s))
      (branch (content_fits s old) (branch (is_event s ev) (happens-within old ev) (at_once 4 None result)) (at_once 3 None result))
      (at_once 3 None result))

  -- ---- start

  next_within_lem : (m k : ℕ) (r : Ran) (st : List ℤ) (K : ℕ → List ℤ → Outcome) → ((j : ℕ) (st : List ℤ) → j ≤ k + limit_of s → Within m (K j st)) → k + limit_of s ≤ m → Within m (start_next s (limit_of s) k r st K)
  unfolding start_next
  next_within_lem m k (Done l) st K h g = h (k + (limit_of s - l)) st (omega arith)
  next_within_lem m k (Refused n l) st K h g = ends (answer n (k + (limit_of s - l)) None) (replicate (state_length s) (pos 0)) (omega arith)
  next_within_lem m k Stuck st K h g = stops

  -- n elements after k steps
  from_within : (n e k : ℕ) (st : List ℤ) (m : ℕ) → k + n * limit_of s ≤ m → Within m (start_from s (limit_of s) n e k st)
  unfolding start_from
  from_within zero e k st m h = ends (answer 0 k None) st (omega arith)
  from_within (suc n) e k st m h =
      let q : suc n * limit_of s ≡ n * limit_of s + limit_of s = suc-mul n (limit_of s) in
      let w = ran_body s (limit_of s) e (alone (element_body s e is_initial)) [] st in
      next_within_lem m k w.ran w.st (λ k st. start_from s (limit_of s) n (suc e) k st) (λ j st g. from_within n (suc e) j st m (omega arith)) (omega arith)

  pub start-within : (result : List ℤ) → Within (elements_of s * limit_of s) (start_call s (limit_of s) result)
  unfolding start_call started
  start-within result = passed-within (check_of s) result _ (branch (eqb (length result) (state_length s)) (branch (elements_there s) (from_within (elements_of s) (externals_of s) 0 (default_state s) (elements_of s * limit_of s) (omega arith)) stops) (at_once 3 None result))
