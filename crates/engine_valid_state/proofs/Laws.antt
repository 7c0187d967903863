-- Laws of the tests of a state, and what is known of the waiting telegrams once the tests before are passed.
use Rattle.std.specs.Prelude.{None}
use Prim.Native.Nat.{ℕ, ◌+◌, ◌≤◌, ◌<◌}
use mathlib.Core.Path.{◌≡◌, refl, ◌∙◌}
use mathlib.Core.List.{List}
use mathlib.Core.Bool.{true, false}
use native.Mathlib.Omega.{arith}
use lib.ListN.{length}
use lib.IntN.{ℤ, pos, nat_abs}
use lib.Signed.{le_z}
use Rattle.sheet.specs.All.{all_below}
use Rattle.sheet.proofs.All.{and_first, and_second, all-at}
use Rattle.sheet_rules.specs.Fields.{components_of, externals_of, elements_of}
use Rattle.sheet_rules.proofs.Fields.{holds_absent}
use Rattle.machine.specs.Values.{is_bound, chart_of}
use Rattle.machine.specs.State.{places, state_length, word_of, waiting, telegram_in}
use Rattle.machine.specs.Valid.{element_fits, internal_fits, telegram_fits, head_fits, cells_fit, waiting_fit}
use Rattle.machine_passed.proofs.Charts.{number_bound}
use Rattle.machine_states.proofs.Parts.{below_abs, below_more, same_word_lem}
use Rattle.machine_states.proofs.Telegrams.{internal_part}
use Rattle.engine_store.specs.Layout.{place_in}
use Rattle.engine_store.proofs.Lies.{at_least}
use Rattle.engine_valid_words.proofs.Laws.{below-from}
use Rattle.engine_valid_telegrams.specs.Waits.{Waits}
use Rattle.engine_valid_waiting.proofs.Laws.{waiting_is}
use Rattle.engine_valid_classes.specs.Classes.{EndsFit}

-- ---- the cells of all elements

pub element_in_lem : (s : List ℕ) (from count i : ℕ) → from ≡ externals_of s → count ≡ elements_of s → i < count → is_bound s (from + i) ≡ true
element_in_lem s from count i p q l = rw p (number_bound s i (rw q at l))

pub cells_are : (s : List ℕ) (st : List ℤ) (from : ℕ) → from ≡ externals_of s → all_below (elements_of s) (λ i. element_fits s st (from + i)) ≡ cells_fit s st
unfolding cells_fit
cells_are s st from p = rw p refl

pub no_element : (s : List ℕ) (st : List ℤ) (e : ℕ) → chart_of s e ≡ None → element_fits s st e ≡ false
unfolding element_fits
no_element s st e p = holds_absent (chart_of s e) _ p

-- ---- how many wait, by the head

pub head_from : (st : List ℤ) → head_fits st ≡ true → le_z (pos 0) (word_of st 0) ≡ true
unfolding head_fits
head_from st h = below-from (word_of st 0) (places + 1) (and_first _ _ h)

pub head-waits : (s : List ℕ) (st : List ℤ) (n : ℕ) → length st ≡ state_length s → head_fits st ≡ true → n ≡ nat_abs (word_of st 0) → Waits st n
unfolding head_fits waiting
head-waits s st n l h p = record { number = p; few = omega (arith, p, below_abs (word_of st 0) (places + 1) (and_first _ _ h)); long = at_least s (length st) l }

-- ---- their ends: "components (up to 64)"

module _ (s : List ℕ) (st : List ℤ) (l : length st ≡ state_length s) (n : ℕ) (w : Waits st n) where
  pub ends_fit : components_of s ≤ 64 → waiting_fit s st ≡ true → (j : ℕ) → j < n → EndsFit (telegram_in st (place_in (length st) j))
  unfolding telegram_fits internal_fits
  ends_fit few fits j m =
      let h : telegram_fits s (telegram_in st (place_in (length st) j)) ≡ true = all-at n _ (waiting_is s st l n w.number ∙ fits) j m in
      record { sender = below_more _ _ 64 few (and_first _ _ h); receiver = below_more _ _ 64 few (and_first _ _ (and_second _ _ h)); itself = λ i. same_word_lem _ _ (and_first _ _ (internal_part s (telegram_in st (place_in (length st) j)) h i)) }
