-- The places of telegrams, by where they lie in a state of so many words.
use Prim.Native.Nat.{ℕ, ◌+◌, ◌-◌}
use mathlib.Core.Path.{◌≡◌, ap, ◌∙◌}
use mathlib.Core.List.{List}
use mathlib.Core.Bool.{Bool}
use lib.ListN.{length}
use lib.IntN.{ℤ}
use Rattle.sheet.specs.All.{all_below}
use Rattle.sheet.proofs.All.{all_same}
use Rattle.machine.specs.State.{places, place_at, state_length, waiting, telegram_in, telegram_of}
use Rattle.machine.specs.Valid.{zero_words, telegram_fits, waiting_fit, unused_zero}
use Rattle.engine_store.specs.Layout.{place_in}
use Rattle.engine_store.proofs.Lies.{place_in_lem}

-- a telegram and a place, by where they lie
pub telegram_judged : (s : List ℕ) (st : List ℤ) (at i : ℕ) (b : Bool) → at ≡ i → b ≡ telegram_fits s (telegram_in st at) → b ≡ telegram_fits s (telegram_in st i)
telegram_judged s st at i b q h = h ∙ ap (λ (at : ℕ). telegram_fits s (telegram_in st at)) q

pub place_judged : (st : List ℤ) (at i : ℕ) (b : Bool) → at ≡ i → b ≡ zero_words st at 0 → b ≡ zero_words st i 0
place_judged st at i b q h = h ∙ ap (λ (at : ℕ). zero_words st at 0) q

module _ (s : List ℕ) (st : List ℤ) (l : length st ≡ state_length s) (n : ℕ) (p : n ≡ waiting st) where
  pub waiting_is : all_below n (λ j. telegram_fits s (telegram_in st (place_in (length st) j))) ≡ waiting_fit s st
  unfolding waiting_fit telegram_of
  waiting_is = all_same n _ _ (λ j m. ap (λ (at : ℕ). telegram_fits s (telegram_in st at)) (place_in_lem s (length st) j l)) ∙ ap (λ (m : ℕ). all_below m (λ j. telegram_fits s (telegram_of s st j))) p

  pub unused_is : all_below (places - n) (λ k. zero_words st (place_in (length st) (n + k)) 0) ≡ unused_zero s st
  unfolding unused_zero
  unused_is = all_same (places - n) _ _ (λ k m. ap (λ (at : ℕ). zero_words st at 0) (place_in_lem s (length st) (n + k) l)) ∙ ap (λ (m : ℕ). all_below (places - m) (λ k. zero_words st (place_at s (m + k)) 0)) p
