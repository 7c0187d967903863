-- Calls and whole lists, within limits that are one on a passed sheet.
use Prim.Native.Nat.{ℕ}
use mathlib.Core.Path.{◌≡◌, refl, ap, ◌∙◌}
use mathlib.Core.List.{List, [], ◌∷◌}
use mathlib.Core.Bool.{true, false}
use lib.ListN.{length, replicate}
use lib.Dec.{eqb}
use lib.IntN.{ℤ, pos}
use Rattle.sheet.specs.All.{◌and◌}
use Rattle.sheet_rules.specs.declared.Checked.{Checked}
use Rattle.sheet_rules.specs.declared.Checked.TheVariants.{Passed, Shape, Static}
use Rattle.sheet_rules.specs.Check.{check_of}
use Rattle.machine.specs.Play.{Outcome, turned_down, if_passed, start_call, event_call}
use Rattle.machine.specs.Lists.{played, then_played, after_answer, goes_on, events_of, play_of}
use Rattle.sheet_limits.specs.ButLimit.{ButLimit}
use Rattle.sheet_limits.proofs.Check.{same_check_of}
use Rattle.machine_limits.proofs.State.{same_state_length}
use Rattle.machine_limits.proofs.Valid.{same_content_fits}
use Rattle.machine_limits.proofs.Play.{same_started, same_is_event, same_happens}

-- what is done on a passed sheet need be alike only there
if_passed_lem : {c c' : Checked} {K K' : List ℤ → Outcome} → c ≡ c' → (c ≡ Passed → K ≡ K') → (result : List ℤ) → if_passed c result K ≡ if_passed c' result K'
unfolding if_passed
if_passed_lem {c} {K = K} {K' = K'} e h result = go c h ∙ ap (λ c. if_passed c result K') e
  where
    go : (c : Checked) → (c ≡ Passed → K ≡ K') → if_passed c result K ≡ if_passed c result K'
    go Passed h = λ q. h refl q result
    go Shape h = refl
    go Static h = refl

module _ {s s' : List ℕ} (h : ButLimit s s') (l l' : ℕ) (limits : check_of s ≡ Passed → l ≡ l') where
  pub same_start_call : start_call s l ≡ start_call s' l'
  unfolding start_call
  same_start_call = λ q result. if_passed_lem (same_check_of h) (λ p q result. elim (eqb (length result) (same_state_length h q)) [ true ↦ same_started h q (limits p q) | false ↦ turned_down 3 result ]) result q

  pub same_event_call : event_call s l ≡ event_call s' l'
  unfolding event_call
  same_event_call = λ q old result ev.
      if_passed_lem (same_check_of h) (λ p q result.
      elim (eqb (length old) (same_state_length h q) and eqb (length result) (same_state_length h q)) [
        | true ↦ elim (same_content_fits h q old) [ true ↦ elim (same_is_event h q ev) [ true ↦ same_happens h q (limits p q) old ev | false ↦ turned_down 4 result ] | false ↦ turned_down 3 result ]
        | false ↦ turned_down 3 result
      ]) result q

  events_of_at : (st : List ℤ) (evs : List (List ℤ)) → events_of s l st evs ≡ events_of s' l' st evs
  unfolding events_of
  events_of_at st [] = refl
  events_of_at st (ev ∷ evs) = λ q. then_played (same_event_call q st st ev) (λ a new. after_answer a (events_of_at (goes_on a st new) evs q))

  pub same_events_of : events_of s l ≡ events_of s' l'
  same_events_of = λ q st evs. events_of_at st evs q

  pub same_play_of : play_of s l ≡ play_of s' l'
  unfolding play_of
  same_play_of = λ q evs. then_played (same_start_call q (replicate (same_state_length h q) (pos 0))) (λ a st. after_answer a (elim (eqb a.number 0) [ true ↦ same_events_of q st evs | false ↦ played [] st ]))
