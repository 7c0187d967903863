-- The machine's own list: how many answers it has and their steps; and how it goes on from a call of start.
use Prim.Native.Nat.{ℕ, suc, ◌≤◌}
use mathlib.Core.Path.{◌≡◌, refl, sym, ap, ◌∙◌}
use mathlib.Core.List.{List, [], ◌∷◌}
use mathlib.Core.Bool.{true, false}
use lib.ListN.{length, replicate, length-replicate}
use lib.Dec.{eqb}
use lib.IntN.{ℤ, pos}
use Rattle.machine.specs.declared.Answer.{Answer}
use Rattle.sheet_rules.specs.declared.Checked.TheVariants.{Passed}
use Rattle.machine.specs.State.{state_length}
use Rattle.machine.specs.Play.{Outcome, ended, stuck, limit_of, start_call, event_call}
use Rattle.sheet_rules.specs.Check.{check_of}
use Rattle.machine.specs.Lists.{Played, played, nowhere, then_played, after_answer, goes_on, events_of, play_of, StartGives}
use Rattle.machine_events.proofs.Laws.{start_is}
use Rattle.machine_claim.specs.Claim.{AllWithin}
use Rattle.machine_claim.proofs.Limit.{Within, event-within}

-- n answers, none over the limit
abbrev pub Bounded : List ℕ → ℕ → Played → Type 0
Bounded s n (played answers last) = (length answers ≡ n) × AllWithin (limit_of s) answers
Bounded s n nowhere = Unit {0}

module _ (s : List ℕ) where
  after_bounded : (n : ℕ) (a : Answer) (p : Played) → a.steps ≤ limit_of s → Bounded s n p → Bounded s (suc n) (after_answer a p)
  unfolding after_answer
  after_bounded n a (played answers last) l h = (ap suc h.0, (l, h.1))
  after_bounded n a nowhere l h = h

  then_bounded : (n : ℕ) (w : Outcome) (K : Answer → List ℤ → Played) → Within (limit_of s) w → ((a : Answer) (st : List ℤ) → Bounded s n (K a st)) → Bounded s (suc n) (then_played w (λ a st. after_answer a (K a st)))
  unfolding then_played
  then_bounded n (ended a st) K h k = after_bounded n a (K a st) (h.steps a st refl) (k a st)
  then_bounded n stuck K h k = tt

  pub events_bounded : (evs : List (List ℤ)) (st : List ℤ) → Bounded s (length evs) (events_of s (limit_of s) st evs)
  unfolding events_of
  events_bounded [] st = (refl, tt)
  events_bounded (ev ∷ evs) st = then_bounded (length evs) (event_call s (limit_of s) st st ev) _ (event-within s st st ev) (λ a new. events_bounded evs (goes_on a st new))

  -- whatever was lent, start's answer and state are those of the machine's own run
  pub play_is : check_of s ≡ Passed → (lent : List ℤ) → length lent ≡ state_length s → (a : Answer) (st : List ℤ) → StartGives s (limit_of s) lent a st → (evs : List (List ℤ)) → play_of s (limit_of s) evs ≡ after_answer a (elim (eqb a.number 0) [ true ↦ events_of s (limit_of s) st evs | false ↦ played [] st ])
  unfolding play_of then_played
  play_is ok lent l a st g evs =
      let fresh = replicate (state_length s) (pos 0) in
      let same : ended a st ≡ start_call s (limit_of s) fresh = g ∙ start_is s lent ok l ∙ sym (start_is s fresh ok (length-replicate (state_length s) (pos 0))) in
      ap (λ w. then_played w (λ a st. after_answer a (elim (eqb a.number 0) as (λ b. Played) [ true ↦ events_of s (limit_of s) st evs | false ↦ played [] st ]))) (sym same)
