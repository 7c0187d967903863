-- What each kind of event comes to, path by path.
use Rattle.std.specs.Prelude.{None, Result, Ok, Err}
use Prim.Native.Nat.{ℕ, zero, suc}
use mathlib.Core.Path.{◌≡◌, refl, sym, ap, ◌∙◌}
use mathlib.Core.List.{List}
use lib.IntN.{ℤ}
use native.Mathlib.Omega.{arith}
use Rattle.sheet_rules.specs.declared.Checked.TheVariants.{Passed}
use Rattle.machine.specs.declared.Answer.{Answer}
use Rattle.machine.specs.declared.Telegram.{Telegram}
use Rattle.sheet_rules.specs.Fields.{externals_of, elements_of}
use Rattle.machine.specs.State.{Changed, appended}
use Rattle.machine.specs.Play.{Outcome, ended, answer, outside, slice, sliced_from, change_end}
use Rattle.sheet_rules.specs.Check.{check_of}
use Rattle.machine_events.proofs.Laws.{slice_is}
use Rattle.engine_queue.specs.Changed.{changed_to}

-- an answer without a telegram
pub down : (a : Answer) (n k : ℕ) (st : List ℤ) (w : Outcome) → a ≡ answer n k None → w ≡ ended (answer n k None) st → ended a st ≡ w
down a n k st w e h = ap (λ a. ended a st) e ∙ sym h

-- ---- an event that runs no body

module _ (old new : List ℤ) (r : Changed) (x : Result (Unit {0}) ℕ) (h : r ≡ changed_to x new) where
  pub change_done : (v : Unit {0}) → x ≡ Ok v → (a : Answer) → a ≡ answer 0 0 None → ended a new ≡ change_end old r
  unfolding change_end changed_to
  change_done v q a e = ap (λ a. ended a new) e ∙ sym (ap (change_end old) (h ∙ ap (λ x. changed_to x new) q))

  -- a refusal doesn't say what the state holds
  pub change_refused : (n : ℕ) → x ≡ Err n → (back : List ℤ) → back ≡ old → (a : Answer) → a ≡ answer n 0 None → ended a back ≡ change_end old r
  unfolding change_end changed_to
  change_refused n q back b a e = ap (λ a. ended a back) e ∙ ap (ended (answer n 0 None)) b ∙ sym (ap (change_end old) (h ∙ ap (λ x. changed_to x new) q))

-- ---- a slice

module _ (s : List ℕ) (ok : check_of s ≡ Passed) (old st new : List ℤ) (same : old ≡ st) (x : Result (Unit {0}) ℕ) (h : sliced_from s (elements_of s) (externals_of s) st ≡ changed_to x new) where
  of_old_lem : sliced_from s (elements_of s) (externals_of s) old ≡ changed_to x new
  of_old_lem = ap (sliced_from s (elements_of s) (externals_of s)) same ∙ h

  pub slice_done : (v : Unit {0}) → x ≡ Ok v → (a : Answer) → a ≡ answer 0 0 None → ended a new ≡ slice s old
  slice_done v q a e = change_done old new _ x of_old_lem v q a e ∙ sym (slice_is s ok old)

  pub slice-refused : (n : ℕ) → x ≡ Err n → (a : Answer) (back : List ℤ) → back ≡ old → a ≡ answer n 0 None → ended a back ≡ slice s old
  slice-refused n q a back b e = change_refused old new _ x of_old_lem n q back b a e ∙ sym (slice_is s ok old)

-- ---- Outside

module _ (s : List ℕ) (st new : List ℤ) (x : Result (Unit {0}) ℕ) (t : Telegram) (h : appended s st t ≡ changed_to x new) where
  pub sent : (v : Unit {0}) → x ≡ Ok v → (a : Answer) → a ≡ answer 0 0 None → ended a new ≡ outside s st t
  unfolding outside
  sent v q a e = change_done st new _ x h v q a e

  pub not-sent : (n : ℕ) → x ≡ Err n → new ≡ st → (a : Answer) → a ≡ answer n 0 None → ended a new ≡ outside s st t
  unfolding outside
  not-sent n q same a e = change_refused st new _ x h n q new same a e
