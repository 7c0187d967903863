-- A call of event that passes every test: the machine plays the event within the limit.
use Prim.Native.Nat.{ℕ}
use mathlib.Core.Path.{◌≡◌, refl, ap, ◌∙◌}
use mathlib.Core.List.{List}
use mathlib.Core.Bool.{true, false}
use lib.ListN.{length}
use lib.Dec.{eqb}
use lib.IntN.{ℤ}
use borrow.Author.Tests.{eq-eqb}
use Rattle.sheet.specs.All.{◌and◌}
use Rattle.sheet.proofs.All.{and-true}
use Rattle.sheet_rules.specs.declared.Checked.TheVariants.{Passed}
use Rattle.sheet_rules.specs.Check.{check_of}
use Rattle.machine.specs.State.{state_length}
use Rattle.machine.specs.Valid.{content_fits}
use Rattle.machine.specs.Play.{Outcome, is_event, happens, turned_down, if_passed, event_call}

module _ (s : List ℕ) (limit : ℕ) (old result ev : List ℤ) where
  abbrev on_passed : List ℤ → Outcome
  on_passed result =
      elim (eqb (length old) (state_length s) and eqb (length result) (state_length s)) [
        | true ↦ elim (content_fits s old) [ true ↦ elim (is_event s ev) [ true ↦ happens s limit old ev | false ↦ turned_down 4 result ] | false ↦ turned_down 3 result ]
        | false ↦ turned_down 3 result
      ]

  passed : check_of s ≡ Passed → event_call s limit old result ev ≡ on_passed result
  unfolding event_call if_passed
  passed ok = ap (λ c. if_passed c result on_passed) ok

  pub event-played : check_of s ≡ Passed → length old ≡ state_length s → length result ≡ state_length s → content_fits s old ≡ true → is_event s ev ≡ true → event_call s limit old result ev ≡ happens s limit old ev
  event-played ok a b c e = passed ok ∙ rw (on_passed, and-true _ _ (eq-eqb (length old) (state_length s) a) (eq-eqb (length result) (state_length s) b), c, e) refl
