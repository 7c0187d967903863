-- The cells that hold clocks.
use Prim.Native.Nat.{ℕ, zero, suc, ◌+◌, ◌<◌, ◌≤◌}
use mathlib.Core.Path.{◌≡◌, refl, sym, ap, ◌∙◌}
use mathlib.Core.List.{List}
use mathlib.Core.Bool.{Bool, true, false, not, true≢false}
use native.Mathlib.Omega.{arith}
use native.Mathlib.Decide.{dec_lt}
use lib.Dec.{leb, eqb}
use lib.IntN.{ℤ, pos, negsuc}
use lib.Signed.{le_z, lt_z}
use borrow.Author.Tests.{ltb-true, le-leb, lt-leb, ne_eqb}
use Rattle.sheet.specs.Names.{names, timer_type, timeout_type, is_clock}
use Rattle.sheet.specs.Sheet.{count_of}
use Rattle.sheet.proofs.All.{and-true, and_first, and_second, false-and, and-false, all-at}
use Rattle.machine.specs.Values.{is_below, is_zero}
use Rattle.machine.specs.State.{cell_at, place_at, state_length, word_of, on}
use Rattle.machine.specs.Valid.{zero_words, running_clock, cell_fits}
use Rattle.machine.specs.Play.{ticks, sliced_cell}
use Rattle.machine_states.proofs.Clocks.{running, running-below, timer_runs, timeout_runs, cycler_runs, clock-named}
use Rattle.engine_ticks.specs.Running.{Running}
use Rattle.engine_clocks.specs.Cells.{Cell}

-- ---- a cell

module _ (s : List ℕ) (e t at : ℕ) (st : List ℤ) where
  pub cell_stopped : is_zero (word_of st at) ≡ true → sliced_cell s e t at st ≡ on st
  unfolding sliced_cell
  cell_stopped q = rw (sliced_cell, and-false (is_clock t) (not (is_zero (word_of st at))) (ap not q)) refl

  pub cell_data : is_clock t ≡ false → sliced_cell s e t at st ≡ on st
  unfolding sliced_cell
  cell_data q = rw (sliced_cell, false-and (is_clock t) (not (is_zero (word_of st at))) q) refl

  pub cell_ticks : is_clock t ≡ true → is_zero (word_of st at) ≡ false → sliced_cell s e t at st ≡ ticks s e t at st
  unfolding sliced_cell
  cell_ticks q r = rw (sliced_cell, and-true (is_clock t) (not (is_zero (word_of st at))) q (ap not r)) refl

-- a type read as one of 4 to 6
pub is_clock_lem : (k x : ℕ) {t : ℕ} → x ≡ t → x ≡ k → 4 ≤ k → k ≤ 6 → is_clock t ≡ true
unfolding is_clock
is_clock_lem k x e f l m = ap is_clock (sym e ∙ f) ∙ and-true _ _ (le-leb 4 k l) (le-leb k 6 m)

pub no_clock_lem : (t : ℕ) → (t ≡ 4 → ⊥) → (t ≡ 5 → ⊥) → (t ≡ 6 → ⊥) → is_clock t ≡ false
unfolding is_clock
no_clock_lem t a b c = elim (dec_lt t 4) [ yes l ↦ false-and (leb 4 t) (leb t 6) (lt-leb 4 t l) | no l ↦ and-false (leb 4 t) (leb t 6) (lt-leb t 6 (omega arith)) ]

-- ---- the words of a clock that runs

one_word : (z : ℤ) → is_below z 2 ≡ true → is_zero z ≡ false → z ≡ pos 1
unfolding is_below is_zero
one_word (pos zero) h n = absurd (true≢false n)
one_word (pos (suc zero)) h n = refl
one_word (pos (suc (suc k))) h n = absurd (let l = ltb-true (suc (suc k)) 2 h in omega arith)
one_word (negsuc k) h n = absurd (true≢false (sym h))

zero_from_lem : (z : ℤ) → is_zero z ≡ true → le_z (pos 0) z ≡ true
unfolding is_zero
zero_from_lem (pos k) h = le-leb 0 k (omega arith)
zero_from_lem (negsuc k) h = absurd (true≢false (sym h))

below-from : (z : ℤ) (n : ℕ) → is_below z n ≡ true → le_z (pos 0) z ≡ true
unfolding is_below
below-from (pos k) n h = le-leb 0 k (omega arith)
below-from (negsuc k) n h = absurd (true≢false (sym h))

one_from : (z : ℤ) → le_z (pos 1) z ≡ true → le_z (pos 0) z ≡ true
one_from (pos k) h = le-leb 0 k (omega arith)
one_from (negsuc k) h = absurd (true≢false (sym h))

above_from : (n : ℕ) (a b : ℤ) → le_z (pos n) a ≡ true → le_z a b ≡ true → le_z (pos 0) b ≡ true
above_from n (pos a) (pos b) h k = le-leb 0 b (omega arith)
above_from n (pos a) (negsuc b) h k = absurd (true≢false (sym k))
above_from n (negsuc a) b h k = absurd (true≢false (sym h))

beyond_from : (n : ℕ) (a b : ℤ) → le_z (pos n) a ≡ true → lt_z a b ≡ true → le_z (pos 0) b ≡ true
beyond_from n (pos a) (pos b) h k = le-leb 0 b (omega arith)
beyond_from n (pos a) (negsuc b) h k = absurd (true≢false (sym k))
beyond_from n (negsuc a) b h k = absurd (true≢false (sym h))

module _ (s : List ℕ) (e t : ℕ) (st : List ℤ) (at : ℕ) (h : running_clock s e t st at ≡ true) where
  -- "A running Timer has .. zeros after"
  timer_zero : eqb t timer_type ≡ true → (k : ℕ) → k < 6 → is_zero (word_of st (at + 2 + k)) ≡ true
  unfolding running_clock zero_words
  timer_zero q k l = all-at 6 _ (and_second _ _ (and_second _ _ (and_second _ _ (rw (running_clock, q) at h)))) k l

  name_below : eqb t timer_type ≡ false → le_z (pos 0) (word_of st (at + 3)) ≡ true
  name_below n = below-from (word_of st (at + 3)) (count_of s names) (clock-named s e t st at h n)

  words_from_lem : (le_z (pos 0) (word_of st (at + 1)) ≡ true) × (le_z (pos 0) (word_of st (at + 2)) ≡ true) × (le_z (pos 0) (word_of st (at + 3)) ≡ true)
  words_from_lem = go (eqb t timer_type) (eqb t timeout_type) refl refl
    where
      go : (a b : Bool) → eqb t timer_type ≡ a → eqb t timeout_type ≡ b → (le_z (pos 0) (word_of st (at + 1)) ≡ true) × (le_z (pos 0) (word_of st (at + 2)) ≡ true) × (le_z (pos 0) (word_of st (at + 3)) ≡ true)
      go true b p q =
          let f : at + 2 + 0 ≡ at + 2 = omega arith in
          let g : at + 2 + 1 ≡ at + 3 = omega arith in
          (timer_runs s e t st at h p, zero_from_lem (word_of st (at + 2)) (rw f at (timer_zero p 0 (omega arith))), zero_from_lem (word_of st (at + 3)) (rw g at (timer_zero p 1 (omega arith))))
      go false true p q = let w = timeout_runs s e t st at h p q in (one_from (word_of st (at + 1)) (and_first _ _ w), above_from 1 (word_of st (at + 1)) (word_of st (at + 2)) (and_first _ _ w) (and_second _ _ w), name_below p)
      go false false p q = let w = cycler_runs s e t st at h p q in (and_first _ _ w, beyond_from 0 (word_of st (at + 1)) (word_of st (at + 2)) (and_first _ _ w) (and_second _ _ w), name_below p)

-- a type read as 5 or 6
pub not_timer : (k x : ℕ) {t : ℕ} → x ≡ t → x ≡ k → 5 ≤ k → eqb t timer_type ≡ false
not_timer k x e f l = ap (λ (u : ℕ). eqb u timer_type) (sym e ∙ f) ∙ ne_eqb k 4 (λ q. omega arith)

-- a clock that runs in the cell numbered i, which begins at `at`
module _ (s : List ℕ) (e t : ℕ) (st : List ℤ) (i at : ℕ) (here : at ≡ cell_at i) (c : Cell s e t st i) (clock : is_clock t ≡ true) (n : is_zero (word_of st at) ≡ false) where
  fits : cell_fits s e t st at ≡ true
  fits = rw here (c.clock clock).1

  pub cell_named : eqb t timer_type ≡ false → is_below (word_of st (at + 3)) (count_of s names) ≡ true
  cell_named named = clock-named s e t st at (running s e t st at fits clock n) named

  pub cell_runs : Running st at
  unfolding cell_at state_length place_at
  cell_runs =
      let w = words_from_lem s e t st at (running s e t st at fits clock n) in
      record {
        behind = omega arith;
        inside = let l = (c.clock clock).0 in let m = c.whole in omega arith;
        head = c.head;
        runs = one_word _ (running-below s e t st at fits clock n) n;
        value = w.0;
        period = w.1;
        name = w.2;
      }
