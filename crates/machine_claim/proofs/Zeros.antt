-- "after 6 to 10 its state is all zeros": whatever the sheet, a start of a number other than 0 that was not turned down leaves zeros.
use Prim.Native.Nat.{ℕ, zero, suc, ◌+◌, ◌-◌}
use mathlib.Core.Path.{◌≡◌, refl, sym, subst, ◌∙◌}
use mathlib.Core.List.{List, []}
use mathlib.Core.Bool.{Bool, true, false}
use lib.ListN.{length, replicate}
use lib.IntN.{ℤ, pos}
use Rattle.machine.specs.declared.Answer.{Answer}
use Rattle.sheet_rules.specs.declared.Checked.TheVariants.{Passed}
use Rattle.machine.specs.declared.Ran.{Ran}
use Rattle.machine.specs.declared.Ran.TheVariants.{Done, Refused, Stuck}
use Rattle.sheet_rules.specs.Fields.{externals_of, elements_of}
use Rattle.machine.specs.State.{state_length}
use Rattle.machine.specs.Play.{Outcome, ended, stuck, limit_of, is_initial, ran_body, element_body, alone, start_next, start_from, started, elements_there, default_state}
use Rattle.sheet_rules.specs.Check.{check_of}
use Rattle.machine.specs.Lists.{StartGives}
use Rattle.machine_events.proofs.Laws.{start_is}

module _ (s : List ℕ) where
  abbrev zeros : List ℤ
  zeros = replicate (state_length s) (pos 0)

  -- done, or zeros
  abbrev Left : Outcome → Type 0
  Left (ended a st) = (a.number ≡ 0 → ⊥) → st ≡ zeros
  Left stuck = Unit {0}

  next-left : (k : ℕ) (r : Ran) (st : List ℤ) (K : ℕ → List ℤ → Outcome) → ((j : ℕ) (st : List ℤ) → Left (K j st)) → Left (start_next s (limit_of s) k r st K)
  unfolding start_next
  next-left k (Done l) st K h = h (k + (limit_of s - l)) st
  next-left k (Refused n l) st K h = λ _. refl
  next-left k Stuck st K h = tt

  from_left : (n e k : ℕ) (st : List ℤ) → Left (start_from s (limit_of s) n e k st)
  unfolding start_from
  from_left zero e k st = λ z. absurd (z refl)
  from_left (suc n) e k st = let w = ran_body s (limit_of s) e (alone (element_body s e is_initial)) [] st in next-left k w.ran w.st (λ k st. start_from s (limit_of s) n (suc e) k st) (λ j st. from_left n (suc e) j st)

  pub start-zeros : check_of s ≡ Passed → (lent : List ℤ) → length lent ≡ state_length s → (a : Answer) (st : List ℤ) → StartGives s (limit_of s) lent a st → (a.number ≡ 0 → ⊥) → st ≡ replicate (state_length s) (pos 0)
  unfolding started
  start-zeros ok lent l a st g = subst Left (sym (g ∙ start_is s lent ok l)) (go (elements_there s))
    where
      go : (b : Bool) → Left (elim b [ true ↦ start_from s (limit_of s) (elements_of s) (externals_of s) 0 (default_state s) | false ↦ stuck ])
      go true = from_left (elements_of s) (externals_of s) 0 (default_state s)
      go false = tt
