-- Demand 3 of what playing a list returns, from the claim.
use Prim.Native.Nat.{ℕ, zero, suc, ◌*◌, ◌/◌, ◌-◌, ◌≤◌}
use mathlib.Core.Path.{◌≡◌, refl, sym, ap, subst, ◌∙◌}
use mathlib.Core.List.{List, [], ◌∷◌}
use mathlib.Core.Bool.{true, false}
use lib.ListN.{length, length-map}
use lib.Dec.{eqb}
use lib.IntN.{ℤ}
use borrow.Author.Tests.{eq-eqb, ne_eqb}
use Rattle.machine.specs.declared.Answer.{Answer}
use Rattle.sheet_rules.specs.Fields.{elements_of}
use Rattle.machine.specs.State.{state_length}
use Rattle.machine.specs.Valid.{OfSheet}
use Rattle.machine.specs.Play.{words_of_event, limit_of}
use Rattle.machine.specs.Lists.{played, play_of}
use Rattle.machine_promise.specs.Promise.{OneOf, OneReaction}
use Rattle.machine_claim.specs.Claim.{Call, events_called, AllLent, Claim}
use Rattle.machine_claim.proofs.Claim.{Plays, claim_given}
use Rattle.machine_claim.proofs.Machine.{machine, machine-start, machine-event}
use Rattle.machine_lists.specs.Words.{events_from, events_in, answers_words}
use Rattle.machine_lists.specs.ListCall.{Listed, listed, unlisted, list_of}
use Rattle.engine_demand.specs.Demand.{Demand, EveryPlay}
use Rattle.machine_lists.proofs.Calls.{whole_events_lem, whole-list}

-- ---- the events as calls, with one state lent for each

module _ (lent : List ℤ) where
  calls_of : List (List ℤ) → List Call
  calls_of [] = []
  calls_of (ev ∷ evs) = record { words = ev; lent = lent } ∷ calls_of evs

  events_called_lem : (evs : List (List ℤ)) → events_called (calls_of evs) ≡ evs
  unfolding calls_of
  events_called_lem [] = refl
  events_called_lem (ev ∷ evs) = ap (λ l. ev ∷ l) (events_called_lem evs)

  all-lent : (s : List ℕ) → length lent ≡ state_length s → (evs : List (List ℤ)) → AllLent s (calls_of evs)
  unfolding calls_of
  all-lent s l [] = tt
  all-lent s l (ev ∷ evs) = (l, all-lent s l evs)

  -- the machine's own calls
  all-played : (s : List ℕ) (evs : List (List ℤ)) → Plays machine s (calls_of evs)
  unfolding calls_of
  all-played s [] = tt
  all-played s (ev ∷ evs) = (λ st o. machine-event s st lent ev, all-played s evs)

events_count : (ws : List ℤ) (n i : ℕ) → length (events_from ws n i) ≡ n
unfolding events_from
events_count ws zero i = refl
events_count ws (suc n) i = ap suc (events_count ws n (suc i))

-- ---- what was returned

answer_in : Answer → Listed → Answer
answer_in d (listed a st answers) = a
answer_in d unlisted = d

state_in : Listed → List ℤ
state_in (listed a st answers) = st
state_in unlisted = []

answers_in : Listed → List ℤ
answers_in (listed a st answers) = answers
answers_in unlisted = []

module _ (s : List ℕ) (events lent room : List ℤ) (c : Claim machine s lent (calls_of lent (events_in events))) (a : Answer) (st answers : List ℤ) where
  given_demand : listed a st answers ≡ listed c.first c.last (elim (eqb c.first.number 0) [ true ↦ answers_words c.answers | false ↦ room ]) → Demand s events room a st answers
  unfolding answer_in state_in answers_in
  given_demand e =
      let same : a ≡ c.first = ap (answer_in a) e in
      let left : st ≡ c.last = ap state_in e in
      let words = ap answers_in e in
      let other : (a.number ≡ 0 → ⊥) → c.first.number ≡ 0 → ⊥ = λ n z. n (ap (λ a. a.number) same ∙ z) in
      record {
        start = subst (λ a. OneOf 6 a.number) (sym same) c.start;
        start_within = subst (λ a. a.steps ≤ elements_of s * limit_of s) (sym same) c.start_within;
        list = λ z.
            let y : c.first.number ≡ 0 = sym (ap (λ a. a.number) same) ∙ z in
            record {
              given = c.answers;
              each = c.each y ∙ sym (length-map (calls_of lent (events_in events)) _) ∙ ap length (events_called_lem lent (events_in events)) ∙ events_count events (length events / words_of_event) 0;
              words = words ∙ ap (λ b. elim b as (λ b. List ℤ) [ true ↦ answers_words c.answers | false ↦ room ]) (eq-eqb c.first.number 0 y);
              machine = ap (play_of s (limit_of s)) (sym (events_called_lem lent (events_in events))) ∙ c.machine ∙ ap (λ a. played (a ∷ c.answers) c.last) (sym same) ∙ ap (played (a ∷ c.answers)) (sym left);
              answered = c.answered;
              within = c.within;
              of_sheet = subst (OfSheet s) (sym left) (c.of_sheet y);
              reactions = subst (OneReaction s) (sym left) (c.reactions y);
            };
        zeros = λ n. left ∙ c.zeros (other n);
        untouched = λ n. words ∙ ap (λ b. elim b as (λ b. List ℤ) [ true ↦ answers_words c.answers | false ↦ room ]) (ne_eqb c.first.number 0 (other n));
      }

pub every_play : EveryPlay
unfolding list_of
every_play s events lent spare room ok l k u v a st answers e =
    let calls = calls_of lent (events_in events) in
    let c = claim_given machine s ok lent l (machine-start s lent) calls (all-lent lent s l (events_in events)) (all-played lent s (events_in events)) in
    given_demand s events lent room c a st answers (e ∙ whole-list s events lent spare room ok (eq-eqb (length lent) (state_length s) l) (eq-eqb (length spare) (state_length s) k) (whole_events_lem events room u v) ∙ ap (λ evs. list_of room (play_of s (limit_of s) evs)) (sym (events_called_lem lent (events_in events))) ∙ ap (list_of room) c.machine)
