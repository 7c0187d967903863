-- The claim, from the promise of the machine.
use Prim.Native.Nat.{ℕ, ◌*◌, ◌≤◌}
use mathlib.Core.Path.{◌≡◌, refl, sym, ap, subst, ◌∙◌}
use mathlib.Core.List.{List, [], ◌∷◌}
use mathlib.Core.Bool.{Bool, true, false}
use lib.ListN.{length, length-map}
use lib.Dec.{eqb}
use lib.IntN.{ℤ}
use borrow.Author.Tests.{eqb-true, eqb-false}
use Rattle.machine.specs.declared.Answer.{Answer}
use Rattle.sheet_rules.specs.declared.Checked.TheVariants.{Passed}
use Rattle.sheet_rules.specs.Fields.{elements_of}
use Rattle.machine.specs.State.{state_length}
use Rattle.machine.specs.Valid.{OfSheet}
use Rattle.machine.specs.Play.{Outcome, ended, stuck, limit_of, is_event, event_call}
use Rattle.sheet_rules.specs.Check.{check_of}
use Rattle.machine.specs.Lists.{Played, played, nowhere, then_played, after_answer, goes_on, events_of, play_of, StartGives, EventGives}
use Rattle.machine_states.proofs.Parts.{of_content}
use Rattle.machine_words.specs.Words.{Bytes}
use Rattle.machine_words.proofs.Words.{of_sheet-words}
use Rattle.machine.proofs.Calls.{event-played}
use Rattle.machine_events.proofs.Laws.{event_malformed}
use Rattle.machine_promise.specs.Promise.{StartKept, EventKept, ListKept}
use Rattle.machine_promise.proofs.Promise.{on-kept, list-kept, promise}
use Rattle.machine_claim.specs.Claim.{Engine, Meets, Call, AllLent, AllWords, events_called, called_from, run_of_engine, Claim, EveryList}
use Rattle.machine_claim.proofs.Limit.{start-within}
use Rattle.machine_claim.proofs.Zeros.{start-zeros}
use Rattle.machine_claim.proofs.Runs.{Bounded, events_bounded, play_is}

answer_of : Answer → Outcome → Answer
answer_of d (ended a st) = a
answer_of d stuck = d

same_answer : (a b : Answer) (st st' : List ℤ) → ended a st ≡ ended b st' → a ≡ b
unfolding answer_of
same_answer a b st st' e = ap (answer_of a) e

-- ---- an engine that gives what the machine gives, at start and at each call of a list

abbrev pub Starts : Engine → List ℕ → List ℤ → Type 0
Starts e s lent = StartGives s (limit_of s) lent (e.start s lent).answer (e.start s lent).state

-- on every state of the sheet
abbrev pub Plays : Engine → List ℕ → List Call → Type 0
Plays e s [] = Unit {0}
Plays e s (c ∷ calls) = ((st : List ℤ) → OfSheet s st → EventGives s (limit_of s) st c.lent c.words (e.event s st c.lent c.words).answer (e.event s st c.lent c.words).state) × Plays e s calls

-- ---- whatever was lent, the answer and the state that goes on are those of the machine's own list

module _ (s : List ℕ) (ok : check_of s ≡ Passed) where
  module _ (st lent ev : List ℤ) (o : OfSheet s st) (l : length lent ≡ state_length s) (a : Answer) (result : List ℤ) (g : EventGives s (limit_of s) st lent ev a result) where
    lent_same : (new : List ℤ) × (ended a new ≡ event_call s (limit_of s) st st ev) × (goes_on a st result ≡ goes_on a st new)
    unfolding goes_on
    lent_same = go (is_event s ev) refl
      where
        go : (b : Bool) → is_event s ev ≡ b → (new : List ℤ) × (ended a new ≡ event_call s (limit_of s) st st ev) × (◌≡◌ {A = List ℤ} (elim (eqb a.number 0) [ true ↦ result | false ↦ st ]) (elim (eqb a.number 0) [ true ↦ new | false ↦ st ]))
        go true q = (result, g ∙ event-played s (limit_of s) st lent ev ok o.whole l (of_content s st o) q ∙ sym (event-played s (limit_of s) st st ev ok o.whole o.whole (of_content s st o) q), refl)
        go false q =
            let down = g ∙ event_malformed s st lent ev ok o.whole l (of_content s st o) q in
            let four = same_answer _ _ _ _ down in
            (st, ap (λ a. ended a st) four ∙ sym (event_malformed s st st ev ok o.whole o.whole (of_content s st o) q), subst (λ a. ◌≡◌ {A = List ℤ} (elim (eqb a.number 0) [ true ↦ result | false ↦ st ]) (elim (eqb a.number 0) [ true ↦ st | false ↦ st ])) (sym four) refl)

  module _ (e : Engine) where
    calls_same : (calls : List Call) (st : List ℤ) → OfSheet s st → AllLent s calls → Plays e s calls → called_from e s st calls ≡ events_of s (limit_of s) st (events_called calls)
    unfolding called_from events_of then_played
    calls_same [] st o l m = refl
    calls_same (c ∷ calls) st o l m =
        let a = (e.event s st c.lent c.words).answer in
        let k = lent_same st c.lent c.words o l.0 a (e.event s st c.lent c.words).state (m.0 st o) in
        let o' : OfSheet s (goes_on a st k.0) = on-kept s ok st o a k.0 (subst (EventKept s st) (sym k.1) ((promise s ok).event st c.words o)) in
        ap (λ new. after_answer a (called_from e s new calls)) k.2
        ∙ ap (after_answer a) (calls_same calls (goes_on a st k.0) o' l.1 m.1)
        ∙ ap (λ w. then_played w (λ a new. after_answer a (events_of s (limit_of s) (goes_on a st new) (events_called calls)))) k.1

    module _ (lent : List ℤ) (l : length lent ≡ state_length s) (begun : Starts e s lent) where
      abbrev a : Answer
      a = (e.start s lent).answer

      abbrev st : List ℤ
      st = (e.start s lent).state

      kept : StartKept s (ended a st)
      kept = subst (StartKept s) (sym begun) ((promise s ok).start lent l)

      -- what follows start in either run
      abbrev after : Bool → Played → Played
      after b p = elim b [ true ↦ p | false ↦ played [] st ]

      machine_same : (evs : List (List ℤ)) → play_of s (limit_of s) evs ≡ after_answer a (after (eqb a.number 0) (events_of s (limit_of s) st evs))
      machine_same = play_is s ok lent l a st begun

      start_steps : a.steps ≤ elements_of s * limit_of s
      start_steps = (start-within s lent).steps a st (sym begun)

      module _ (calls : List Call) (g : AllLent s calls) (m : Plays e s calls) where
        -- the two runs, where start's test and the machine's list are known
        runs_same : (b : Bool) (p : Played) → eqb a.number 0 ≡ b → events_of s (limit_of s) st (events_called calls) ≡ p → (run_of_engine e s lent calls ≡ after_answer a (after b p)) × (play_of s (limit_of s) (events_called calls) ≡ after_answer a (after b p))
        unfolding run_of_engine
        runs_same true p q h =
            let o : OfSheet s st = kept.1 (eqb-true _ _ q) in
            let evs = events_called calls in (
              ap (λ b. after_answer a (after b (called_from e s st calls))) q ∙ ap (after_answer a) (calls_same calls st o g m ∙ h),
              machine_same evs ∙ ap (λ b. after_answer a (after b (events_of s (limit_of s) st evs))) q ∙ ap (after_answer a) h,
            )
        runs_same false p q h = let evs = events_called calls in (ap (λ b. after_answer a (after b (called_from e s st calls))) q, machine_same evs ∙ ap (λ b. after_answer a (after b (events_of s (limit_of s) st evs))) q)

        claim_of : (b : Bool) (p : Played) → eqb a.number 0 ≡ b → events_of s (limit_of s) st (events_called calls) ≡ p → Claim e s lent calls
        unfolding after_answer
        claim_of true nowhere q h = absurd (subst (ListKept s) h (list-kept s ok (events_called calls) st (kept.1 (eqb-true _ _ q))))
        claim_of true (played answers last) q h =
            let z = eqb-true _ _ q in
            let r = runs_same true (played answers last) q h in
            let bound : Bounded s (length (events_called calls)) (played answers last) = subst (Bounded s (length (events_called calls))) h (events_bounded s (events_called calls) st) in
            let k : ListKept s (played answers last) = subst (ListKept s) h (list-kept s ok (events_called calls) st (kept.1 z)) in
            record {
              first = a;
              answers = answers;
              last = last;
              run = r.0;
              machine = r.1;
              start = kept.0;
              answered = k.0;
              each = λ _. bound.0 ∙ length-map calls _;
              refused = λ n. absurd (n z);
              zeros = λ n. absurd (n z);
              within = bound.1;
              start_within = start_steps;
              of_sheet = λ _. k.1;
              reactions = λ _. k.2;
            }
        claim_of false p q h =
            let n = eqb-false _ _ q in
            let r = runs_same false p q h in
            record {
              first = a;
              answers = [];
              last = st;
              run = r.0;
              machine = r.1;
              start = kept.0;
              answered = tt;
              each = λ z. absurd (n z);
              refused = λ _. refl;
              zeros = start-zeros s ok lent l a st begun;
              within = tt;
              start_within = start_steps;
              of_sheet = λ z. absurd (n z);
              reactions = λ z. absurd (n z);
            }

-- what the claim asks of an engine is what it gives on the list's own calls
pub claim_given : (e : Engine) (s : List ℕ) → check_of s ≡ Passed → (lent : List ℤ) → length lent ≡ state_length s → Starts e s lent → (calls : List Call) → AllLent s calls → Plays e s calls → Claim e s lent calls
claim_given e s ok lent l begun calls g m = claim_of s ok e lent l begun calls g m _ _ refl refl

-- the states between them are of the sheet, so they are words
all-played : (e : Engine) → Meets e → (s : List ℕ) → Bytes s → check_of s ≡ Passed → (calls : List Call) → AllWords calls → Plays e s calls
all-played e m s y ok [] w = tt
all-played e m s y ok (c ∷ calls) w = (λ st o. m.event s y st c.lent c.words (of_sheet-words s ok st o) w.1 w.0, all-played e m s y ok calls w.2)

pub every_list : EveryList
every_list e m s y ok lent v l calls w g = claim_given e s ok lent l (m.start s y lent v) calls g (all-played e m s y ok calls w)
