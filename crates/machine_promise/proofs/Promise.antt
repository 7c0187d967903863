-- The promise of `specs/Promise`, for every sheet that the rules pass.
use Prim.Native.Nat.{ℕ}
use mathlib.Core.Path.{◌≡◌, refl, subst}
use mathlib.Core.List.{List, [], ◌∷◌}
use mathlib.Core.Bool.{Bool, true, false}
use lib.Dec.{eqb}
use lib.IntN.{ℤ}
use borrow.Author.Tests.{eqb-true}
use Rattle.machine.specs.declared.Answer.{Answer}
use Rattle.sheet_rules.specs.declared.Checked.TheVariants.{Passed}
use Rattle.machine.specs.Valid.{OfSheet}
use Rattle.machine.specs.Play.{Outcome, ended, stuck, event_call, limit_of}
use Rattle.sheet_rules.specs.Check.{check_of}
use Rattle.machine.specs.Lists.{Played, played, nowhere, then_played, after_answer, goes_on, events_of}
use Rattle.machine_promise.specs.Promise.{OneOf, EventKept, StartKept, ListKept, PassedKept}
use Rattle.machine_promise.proofs.Events.{event-kept}
use Rattle.machine_promise.proofs.Start.{start-kept}
use Rattle.machine_promise.proofs.Reactions.{one_reaction}

module _ (s : List ℕ) (ok : check_of s ≡ Passed) where
  also_kept : (a : Answer) (p : Played) → OneOf 4 a.number → ListKept s p → ListKept s (after_answer a p)
  unfolding after_answer
  also_kept a (played answers st) h k = ((h, k.0), k.1, k.2)
  also_kept a nowhere h k = k

  -- an accepted event's state is of the sheet, and a refused one leaves the old
  pub on-kept : (old : List ℤ) → OfSheet s old → (a : Answer) (st : List ℤ) → EventKept s old (ended a st) → OfSheet s (goes_on a old st)
  unfolding goes_on
  on-kept old o a st h = go (eqb a.number 0) refl
    where
      go : (b : Bool) → eqb a.number 0 ≡ b → OfSheet s (elim b [ true ↦ st | false ↦ old ])
      go true q = h.1 (eqb-true _ _ q)
      go false q = o

  then_kept : (old : List ℤ) → OfSheet s old → (w : Outcome) (K : Answer → List ℤ → Played) → EventKept s old w → ((a : Answer) (st : List ℤ) → OfSheet s (goes_on a old st) → ListKept s (K a st)) → ListKept s (then_played w (λ a st. after_answer a (K a st)))
  unfolding then_played
  then_kept old o (ended a st) K h k = also_kept a (K a st) h.0 (k a st (on-kept old o a st h))
  then_kept old o stuck K h k = h

  pub list-kept : (evs : List (List ℤ)) (st : List ℤ) → OfSheet s st → ListKept s (events_of s (limit_of s) st evs)
  unfolding events_of
  list-kept [] st o = (tt, o, one_reaction s ok st o)
  list-kept (ev ∷ evs) st o = then_kept st o (event_call s (limit_of s) st st ev) _ (event-kept s ok st ev o) (λ a new o'. list-kept evs (goes_on a st new) o')

pub promise : PassedKept
promise s ok = record {
  start = start-kept s ok;
  event = λ old ev o. event-kept s ok old ev o;
  list = λ lent a st e l z evs. list-kept s ok evs st ((subst (StartKept s) e (start-kept s ok lent l)).1 z);
}
