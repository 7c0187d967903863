-- Sheets rewritten with the limit that 0 meant give what they gave.
use Prim.Native.Nat.{ℕ}
use mathlib.Core.Path.{◌≡◌, refl, sym, ap, ◌∙◌}
use mathlib.Core.List.{List, [], ◌∷◌}
use mathlib.Core.Bool.{Bool, true, false}
use native.Mathlib.Omega.{arith}
use lib.ListN.{length}
use lib.Dec.{eqb}
use lib.IntN.{ℤ}
use borrow.Author.Tests.{eqb-true, eqb-false}
use Rattle.sheet.specs.All.{◌and◌}
use Rattle.sheet_rules.specs.declared.Checked.TheVariants.{Passed, Shape, Static}
use Rattle.sheet_rules.specs.Check.{check_of}
use Rattle.sheet_limits.specs.ButLimit.{ButLimit}
use Rattle.sheet_limits.proofs.Records.{itself}
use Rattle.sheet_limits.proofs.Written.{with_limit_lem, has_limit}
use Rattle.sheet_limits.proofs.Check.{same_check_of, same_check_call}
use Rattle.machine.specs.Play.{Outcome, ended, default_limit, written_limit, limit_by, limit_of}
use Rattle.machine.specs.Lists.{Played, played, after_answer, goes_on}
use Rattle.machine_passed.proofs.Records.{head-there}
use Rattle.machine.proofs.Limit.{limit_zero, limit_given}
use Rattle.machine_limits.proofs.State.{same_state_length}
use Rattle.machine_limits.proofs.Calls.{same_start_call, same_event_call, same_play_of}
use Rattle.machine_words.specs.Words.{Bytes, Words}
use Rattle.machine_claim.specs.Claim.{Returned, Engine, MeetsBy, Meets, Call, AllWords, called_from, run_of_engine}
use Rattle.machine_claim.proofs.Machine.{returned_of, machine, machine-start, machine-event}
use Rattle.machine_lists.specs.Words.{events_in}
use Rattle.machine_lists.specs.ListCall.{turned_down, whole_events, list_of, list_call}
use Rattle.engine_rewritten.specs.Rewritten.{former_limit, rewritten, EveryRewritten, SomeFormer}
use Rattle.engine_rewritten.proofs.Words.{rewritten_bytes, start-words, event-words, goes_on-words}

-- ---- the limits

module _ (s : List ℕ) where
  alike : ButLimit s (rewritten s)
  alike = with_limit_lem _ s

  -- a passed sheet has a head, and the rewritten one has its limit there
  limits : written_limit s ≡ 0 → check_of s ≡ Passed → limit_by former_limit s ≡ limit_by default_limit (rewritten s)
  limits z ok =
      let e = has_limit _ s (head-there s ok).0 (head-there s ok).1 in
      limit_zero former_limit s z ∙ sym (limit_given default_limit (rewritten s) (λ n. omega (arith, e)) ∙ e)

-- ---- calls

left_same : (r r' : Returned) (w w' : Outcome) → ended r.answer r.state ≡ w → ended r'.answer r'.state ≡ w' → w ≡ w' → r ≡ r'
left_same r r' w w' e e' same = ap returned_of (e ∙ same ∙ sym e')

module _ (before today : Engine) (m : MeetsBy former_limit before) (n : Meets today) (s : List ℕ) (y : Bytes s) (z : written_limit s ≡ 0) where
  start-kept : (lent : List ℤ) → Words lent → before.start s lent ≡ today.start (rewritten s) lent
  start-kept lent v =
      left_same (before.start s lent) (today.start (rewritten s) lent) _ _ (m.start s y lent v) (n.start (rewritten s) (rewritten_bytes s y) lent v)
      (λ q. same_start_call (alike s) _ _ (limits s z) q lent)

  event-kept : (old lent ev : List ℤ) → Words old → Words lent → Words ev → before.event s old lent ev ≡ today.event (rewritten s) old lent ev
  event-kept old lent ev u v w =
      left_same (before.event s old lent ev) (today.event (rewritten s) old lent ev) _ _ (m.event s y old lent ev u v w) (n.event (rewritten s) (rewritten_bytes s y) old lent ev u v w)
      (λ q. same_event_call (alike s) _ _ (limits s z) q old lent ev)

  -- ---- a list

  calls-kept : (calls : List Call) → AllWords calls → (st : List ℤ) → Words st → called_from before s st calls ≡ called_from today (rewritten s) st calls
  unfolding called_from
  calls-kept [] ws st u = refl
  calls-kept (c ∷ calls) ws st u =
      let r = today.event (rewritten s) st c.lent c.words in
      let gives = n.event (rewritten s) (rewritten_bytes s y) st c.lent c.words u ws.1 ws.0 in
      let on = goes_on-words r.answer st r.state u (event-words (rewritten s) st c.lent c.words r.answer r.state gives) in
      ap (λ r. after_answer r.answer (called_from before s (goes_on r.answer st r.state) calls)) (event-kept st c.lent c.words u ws.1 ws.0)
      ∙ ap (after_answer r.answer) (calls-kept calls ws.2 (goes_on r.answer st r.state) on)

  run-kept : (lent : List ℤ) → Words lent → (calls : List Call) → AllWords calls → run_of_engine before s lent calls ≡ run_of_engine today (rewritten s) lent calls
  unfolding run_of_engine
  run-kept lent v calls ws =
      ap (λ r. after_answer r.answer (elim (eqb r.answer.number 0) as (λ b. Played) [ true ↦ called_from before s r.state calls | false ↦ played [] r.state ])) (start-kept lent v)
      ∙ ap (after_answer r.answer) (go (eqb r.answer.number 0) refl)
    where
      r : Returned
      r = today.start (rewritten s) lent

      after : Bool → Played → Played
      after b p = elim b [ true ↦ p | false ↦ played [] r.state ]

      go : (b : Bool) → eqb r.answer.number 0 ≡ b → after b (called_from before s r.state calls) ≡ after b (called_from today (rewritten s) r.state calls)
      go true q = calls-kept calls ws r.state (start-words (rewritten s) lent r.answer r.state (n.start (rewritten s) (rewritten_bytes s y) lent v) (eqb-true _ _ q))
      go false q = refl

  play-kept : (events lent spare room : List ℤ) → list_call s (limit_by former_limit s) events lent spare room ≡ list_call (rewritten s) (limit_of (rewritten s)) events lent spare room
  unfolding list_call
  play-kept events lent spare room = λ q.
      elim (same_check_of (alike s) q) [
        | Shape ↦ turned_down 1 lent room
        | Static ↦ turned_down 2 lent room
        | Passed ↦ elim (eqb (length lent) (same_state_length (alike s) q) and eqb (length spare) (same_state_length (alike s) q)) [
          | true ↦ elim (whole_events events room) [ true ↦ list_of room (same_play_of (alike s) _ _ (limits s z) q (events_in events)) | false ↦ turned_down 4 lent room ]
          | false ↦ turned_down 3 lent room
        ]
      ]

pub every_rewritten : EveryRewritten
every_rewritten before today m n s y z = record {
  check = same_check_call (alike s);
  start = start-kept before today m n s y z;
  event = event-kept before today m n s y z;
  list = run-kept before today m n s y z;
  play = play-kept before today m n s y z;
}

-- ---- an engine of before: the one of today, on sheets whose 0 is rewritten

reformed : List ℕ → List ℕ
reformed s = elim (eqb (written_limit s) 0) [ true ↦ rewritten s | false ↦ s ]

module _ (s : List ℕ) where
  reformed_alike : ButLimit s (reformed s)
  unfolding reformed
  reformed_alike = go (eqb (written_limit s) 0)
    where
      go : (b : Bool) → ButLimit s (elim b [ true ↦ rewritten s | false ↦ s ])
      go true = alike s
      go false = itself s

  reformed_limits : check_of s ≡ Passed → limit_by former_limit s ≡ limit_by default_limit (reformed s)
  unfolding reformed
  reformed_limits ok = go (eqb (written_limit s) 0) refl
    where
      go : (b : Bool) → eqb (written_limit s) 0 ≡ b → limit_by former_limit s ≡ limit_by default_limit (elim b [ true ↦ rewritten s | false ↦ s ])
      go true e = limits s (eqb-true _ _ e) ok
      go false e = limit_given former_limit s (eqb-false _ _ e) ∙ sym (limit_given default_limit s (eqb-false _ _ e))

pub some_former : SomeFormer
some_former = (
  record { start = λ s lent. machine.start (reformed s) lent; event = λ s old lent ev. machine.event (reformed s) old lent ev },
  record {
    start = λ s y lent v. machine-start (reformed s) lent ∙ sym (λ q. same_start_call (reformed_alike s) _ _ (reformed_limits s) q lent);
    event = λ s y old lent ev u v w. machine-event (reformed s) old lent ev ∙ sym (λ q. same_event_call (reformed_alike s) _ _ (reformed_limits s) q old lent ev);
  },
)
