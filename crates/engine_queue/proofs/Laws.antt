-- How many telegrams wait, and what appending one comes to.
use Prim.Native.Nat.{ℕ, ◌+◌, ◌≤◌}
use mathlib.Core.Path.{◌≡◌, refl}
use mathlib.Core.List.{List}
use mathlib.Core.Bool.{true}
use native.Mathlib.Omega.{arith}
use lib.ListN.{get_or, set}
use lib.Dec.{T}
use lib.IntN.{ℤ, pos, negsuc, nat_abs}
use lib.Signed.{non_neg}
use mir.Syntax.{w32, w64}
use mir.Val.{Fits, SFits, of_z, to_z}
use mir.ValLaws.{to_z-of_z}
use borrow.Author.Tests.{ltb-true}
use Rattle.sheet.proofs.All.{true_false}
use Rattle.machine.specs.declared.Telegram.{Telegram}
use Rattle.machine.specs.Values.{is_below}
use Rattle.machine.specs.State.{places, place_at, word_of, waiting, set_waiting, words_of, put_words, with_telegram}
use Rattle.machine.specs.Valid.{OfSheet}
use Rattle.machine_states.proofs.Parts.{below_abs, below_pos, is_counted_lem}
use Rattle.engine_store.proofs.Lies.{at_least}
use Rattle.engine_queue.specs.Laid.{Laid}

pub laid : (s : List ℕ) (st : List ℤ) → OfSheet s st → Laid st
laid s st o = record { long = at_least s _ o.whole; head = is_counted_lem s st o }

below-fits : (z : ℤ) → is_below z (places + 1) ≡ true → SFits w32 z
unfolding is_below
below-fits (pos k) h = record { sfits = omega (arith, ltb-true k (places + 1) h) }
below-fits (negsuc k) h = absurd (true_false h refl)

module _ (st : List ℤ) (l : Laid st) where
  pub head_read : to_z w32 (of_z w32 (get_or st 0 (pos 0))) ≡ word_of st 0
  unfolding word_of
  head_read = to_z-of_z w32 (get_or st 0 (pos 0)) (below-fits _ l.head)

  pub waiting_limit : waiting st ≤ places
  unfolding waiting
  waiting_limit = omega (arith, below_abs (word_of st 0) (places + 1) l.head)

  pub head-counts : T (non_neg (word_of st 0)) × Fits w64 (nat_abs (word_of st 0))
  head-counts = (rw (below_pos (word_of st 0) (places + 1) l.head) tt, record { fits = omega (arith, below_abs (word_of st 0) (places + 1) l.head) })

-- ---- a telegram appended

pub last_put : (s : List ℕ) (st : List ℤ) (t : Telegram) (n at : ℕ) → n ≡ waiting st → at ≡ place_at s n → set (put_words st at (words_of t)) 0 (pos (n + 1)) ≡ with_telegram s st t
unfolding with_telegram set_waiting
last_put s st t n at e q = rw (q, e) refl
