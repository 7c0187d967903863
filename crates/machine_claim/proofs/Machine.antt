-- The machine's own calls meet the contracts: on no arguments are they stuck.
use Rattle.std.specs.Prelude.{None}
use Prim.Native.Nat.{ℕ, suc}
use mathlib.Core.Path.{◌≡◌, refl, sym, subst, ◌∙◌}
use mathlib.Core.List.{List, []}
use mathlib.Core.Bool.{Bool, true, false}
use lib.ListN.{length}
use lib.Dec.{eqb}
use lib.IntN.{ℤ}
use borrow.Author.Tests.{eqb-true, eqb-false}
use Rattle.sheet_rules.specs.declared.Checked.{Checked}
use Rattle.sheet_rules.specs.declared.Checked.TheVariants.{Passed, Shape, Static}
use Rattle.machine.specs.State.{state_length}
use Rattle.machine.specs.Valid.{content_fits, OfSheet}
use Rattle.machine.specs.Play.{Outcome, ended, stuck, answer, is_event, turned_down, start_call, event_call, limit_of}
use Rattle.machine.specs.Lists.{StartGives, EventGives}
use Rattle.sheet_rules.specs.Check.{check_of}
use Rattle.machine_states.proofs.Parts.{content_of_lem}
use Rattle.machine.proofs.Calls.{event-played}
use Rattle.machine_events.proofs.Laws.{start-shape, start-static, start_length, event-shape, event-static, event-old_length, event_result_length, event_content, event_malformed}
use Rattle.machine_promise.specs.Promise.{StartKept, EventKept}
use Rattle.machine_promise.proofs.Promise.{promise}
use Rattle.machine_claim.specs.Claim.{Returned, Engine, SomeEngine}

-- what a call left, by its outcome
abbrev pub returned_of : Outcome → Returned
returned_of (ended a st) = record { answer = a; state = st }
returned_of stuck = record { answer = answer 0 0 None; state = [] }

abbrev Ended : Outcome → Type 0
Ended w = ended (returned_of w).answer (returned_of w).state ≡ w

start-ended : (s : List ℕ) (w : Outcome) → StartKept s w → Ended w
start-ended s (ended a st) k = refl
start-ended s stuck k = absurd k

event-ended : (s : List ℕ) (old : List ℤ) (w : Outcome) → EventKept s old w → Ended w
event-ended s old (ended a st) k = refl
event-ended s old stuck k = absurd k

-- ---- what holds of a call that is turned down and of one on a passed sheet holds of every call

module _ (P : Outcome → Type 0) (s : List ℕ) where
  pub start_either : (lent : List ℤ) → ((n : ℕ) → P (turned_down (suc n) lent)) → (check_of s ≡ Passed → length lent ≡ state_length s → P (start_call s (limit_of s) lent)) → P (start_call s (limit_of s) lent)
  start_either lent down on = go (check_of s) refl
    where
      long : check_of s ≡ Passed → (b : Bool) → eqb (length lent) (state_length s) ≡ b → P (start_call s (limit_of s) lent)
      long ok true q = on ok (eqb-true _ _ q)
      long ok false q = subst P (sym (start_length s lent ok (eqb-false _ _ q))) (down 2)

      go : (k : Checked) → check_of s ≡ k → P (start_call s (limit_of s) lent)
      go Shape h = subst P (sym (start-shape s lent h)) (down 0)
      go Static h = subst P (sym (start-static s lent h)) (down 1)
      go Passed h = long h _ refl

  module _ (old lent ev : List ℤ) (down : (n : ℕ) → P (turned_down (suc n) lent)) (on : check_of s ≡ Passed → OfSheet s old → P (event_call s (limit_of s) old old ev)) where
    module _ (ok : check_of s ≡ Passed) where
      module _ (h : length old ≡ state_length s) (l : length lent ≡ state_length s) where
        formed : content_fits s old ≡ true → (b : Bool) → is_event s ev ≡ b → P (event_call s (limit_of s) old lent ev)
        formed c true q = subst P (event-played s (limit_of s) old old ev ok h h c q ∙ sym (event-played s (limit_of s) old lent ev ok h l c q)) (on ok (content_of_lem s old h c))
        formed c false q = subst P (sym (event_malformed s old lent ev ok h l c q)) (down 3)

        fits : (b : Bool) → content_fits s old ≡ b → P (event_call s (limit_of s) old lent ev)
        fits true c = formed c _ refl
        fits false c = subst P (sym (event_content s old lent ev ok h l c)) (down 2)

      result_long : length old ≡ state_length s → (b : Bool) → eqb (length lent) (state_length s) ≡ b → P (event_call s (limit_of s) old lent ev)
      result_long h true q = fits h (eqb-true _ _ q) _ refl
      result_long h false q = subst P (sym (event_result_length s old lent ev ok (eqb-false _ _ q))) (down 2)

      old-long : (b : Bool) → eqb (length old) (state_length s) ≡ b → P (event_call s (limit_of s) old lent ev)
      old-long true q = result_long (eqb-true _ _ q) _ refl
      old-long false q = subst P (sym (event-old_length s old lent ev ok (eqb-false _ _ q))) (down 2)

    checked : (k : Checked) → check_of s ≡ k → P (event_call s (limit_of s) old lent ev)
    checked Shape h = subst P (sym (event-shape s old lent ev h)) (down 0)
    checked Static h = subst P (sym (event-static s old lent ev h)) (down 1)
    checked Passed h = old-long h _ refl

    pub event_either : P (event_call s (limit_of s) old lent ev)
    event_either = checked (check_of s) refl

-- ---- the machine's own engine

pub machine : Engine
machine = record { start = λ s lent. returned_of (start_call s (limit_of s) lent); event = λ s old lent ev. returned_of (event_call s (limit_of s) old lent ev) }

pub machine-start : (s : List ℕ) (lent : List ℤ) → StartGives s (limit_of s) lent (machine.start s lent).answer (machine.start s lent).state
unfolding machine
machine-start s lent = start_either Ended s lent (λ n. refl) (λ ok l. start-ended s (start_call s (limit_of s) lent) ((promise s ok).start lent l))

pub machine-event : (s : List ℕ) (old lent ev : List ℤ) → EventGives s (limit_of s) old lent ev (machine.event s old lent ev).answer (machine.event s old lent ev).state
unfolding machine
machine-event s old lent ev = event_either Ended s old lent ev (λ n. refl) (λ ok o. event-ended s old (event_call s (limit_of s) old old ev) ((promise s ok).event old ev o))

pub some_engine : SomeEngine
some_engine = (machine, record { start = λ s y lent v. machine-start s lent; event = λ s y old lent ev u v w. machine-event s old lent ev })
