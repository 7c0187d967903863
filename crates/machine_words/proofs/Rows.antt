-- The eight words of a cell and of a telegram's place are words of 32 bits.
use Prim.Native.Nat.{ℕ, zero, suc, ◌+◌, ◌-◌, ◌<◌, ◌≤◌}
use mathlib.Core.Path.{◌≡◌, refl, sym, subst}
use mathlib.Core.List.{List}
use mathlib.Core.Bool.{Bool, true, false}
use native.Mathlib.Omega.{arith}
use native.Mathlib.Decide.{dec_lt}
use lib.Dec.{eqb}
use lib.IntN.{ℤ, negsuc}
use Rattle.sheet.specs.All.{◌and◌}
use Rattle.sheet.specs.Names.{external, internal, timer_type, is_clock}
use Rattle.sheet.proofs.All.{and_first, and_second, all-at}
use Rattle.sheet_rules.specs.declared.Checked.TheVariants.{Passed}
use Rattle.sheet_rules.specs.Fields.{components_of, ports_of}
use Rattle.sheet_rules.specs.Check.{check_of}
use Rattle.machine.specs.declared.Telegram.{Telegram}
use Rattle.machine.specs.Values.{fits32, is_below, is_zero, in_type}
use Rattle.machine.specs.State.{word_of, telegram_in, is_internal}
use Rattle.machine.specs.Valid.{name_fits, zero_words, running_clock, clock_cell, cell_fits, datum_of, internal_fits, external_fits, telegram_fits}
use Rattle.machine_passed.proofs.Records.{components_limit, ports_limit}
use Rattle.machine_states.proofs.Parts.{same_word_lem}
use Rattle.machine_states.proofs.Clocks.{value-int, period-int, timer_zeros, clock-name}
use Rattle.machine_words.proofs.Values.{below_word, zero_word, value_word, name-words}

-- the eight words from `at` on
abbrev pub Row : List ℤ → ℕ → Type 0
Row st at = (k : ℕ) → k < 8 → fits32 (word_of st (at + k)) ≡ true

-- those from number `from` on
abbrev pub RowFrom : List ℤ → ℕ → ℕ → Type 0
RowFrom st at from = (k : ℕ) → from ≤ k → k < 8 → fits32 (word_of st (at + k)) ≡ true

pub zero_row : (st : List ℤ) (at from : ℕ) → zero_words st at from ≡ true → RowFrom st at from
unfolding zero_words
zero_row st at from h k l m =
    let e : at + from + (k - from) ≡ at + k = omega arith in
    zero_word (word_of st (at + k)) (rw e at (all-at (8 - from) (λ k. is_zero (word_of st (at + from + k))) h (k - from) (omega arith)))

pub first_rest : (st : List ℤ) (at : ℕ) → fits32 (word_of st at) ≡ true → RowFrom st at 1 → Row st at
first_rest st at f g zero l = let e : at + 0 ≡ at = omega arith in rw e f
first_rest st at f g (suc k) l = g (suc k) (omega arith) l

-- a telegram's port, name and data
abbrev Tail : Telegram → Type 0
Tail t = (fits32 t.port ≡ true) × (fits32 t.name ≡ true) × ((j : ℕ) → j < 4 → fits32 (datum_of t j) ≡ true)

module _ (s : List ℕ) (ok : check_of s ≡ Passed) where
  -- ---- cells

  module _ (st : List ℤ) (at : ℕ) where
    -- a name and its data stand behind three words
    named_row : (c : ℕ) → name_fits s c (word_of st (at + 3)) (λ j. word_of st (at + 4 + j)) ≡ true → RowFrom st at 3
    named_row c h k l m =
        let n = name-words s ok c (word_of st (at + 3)) (λ j. word_of st (at + 4 + j)) h in
        elim (dec_lt 3 k) [
          | yes q ↦ (let e : at + 4 + (k - 4) ≡ at + k = omega arith in rw e at (n.1 (k - 4) (omega arith)))
          | no q ↦ (let e : k ≡ 3 = omega arith in rw e n.0)
        ]

    module _ (e t : ℕ) where
      -- a Timer has zeros behind its value, another clock its period, name and data
      clock-rest : running_clock s e t st at ≡ true → RowFrom st at 3
      clock-rest h k l m = go (eqb t timer_type) refl
        where
          go : (b : Bool) → eqb t timer_type ≡ b → fits32 (word_of st (at + k)) ≡ true
          go true q = zero_row st at 2 (timer_zeros s e t st at h q) k (omega arith) m
          go false q = named_row internal (clock-name s e t st at h q) k l m

      clock_row : running_clock s e t st at ≡ true → RowFrom st at 1
      clock_row h zero l m = absurd (omega arith)
      clock_row h (suc zero) l m = value-int s e t st at h
      clock_row h (suc (suc zero)) l m = period-int s e t st at h
      clock_row h (suc (suc (suc k))) l m = clock-rest h (suc (suc (suc k))) (omega arith) m

      -- stopped, "all zero", or running
      clock_cell_lem : clock_cell s e t st at ≡ true → Row st at
      unfolding clock_cell
      clock_cell_lem h = go (is_zero (word_of st at)) refl
        where
          go : (b : Bool) → is_zero (word_of st at) ≡ b → Row st at
          go true q = first_rest st at (zero_word (word_of st at) q) (zero_row st at 1 (rw (clock_cell, q) at h))
          go false q =
              let r : is_below (word_of st at) 2 and running_clock s e t st at ≡ true = (rw (clock_cell, q) at h) in
              first_rest st at (below_word (word_of st at) 2 (omega arith) (and_first _ _ r)) (clock_row (and_second _ _ r))

      pub cell_row : cell_fits s e t st at ≡ true → Row st at
      unfolding cell_fits
      cell_row h = go (is_clock t) refl
        where
          go : (b : Bool) → is_clock t ≡ b → Row st at
          go true q = clock_cell_lem (rw (cell_fits, q) at h)
          go false q =
              let r : in_type s t (word_of st at) and zero_words st at 1 ≡ true = (rw (cell_fits, q) at h) in
              first_rest st at (value_word s ok t (word_of st at) (and_first _ _ r)) (zero_row st at 1 (and_second _ _ r))

  -- ---- telegrams

  tail-words : (t : Telegram) → telegram_fits s t ≡ true → Tail t
  unfolding telegram_fits internal_fits external_fits fits32
  tail-words t h = go (is_internal t) refl (and_second _ _ (and_second _ _ h))
    where
      go : (b : Bool) → is_internal t ≡ b → ◌≡◌ {A = Bool} (elim b [ true ↦ internal_fits s t | false ↦ external_fits s t ]) true → Tail t
      go true i q =
          let n = name-words s ok internal t.name (datum_of t) (and_first _ _ (and_second _ _ (and_second _ _ q))) in
          (subst (λ z. fits32 z ≡ true) (sym (same_word_lem t.port (negsuc 0) i)) refl, n.0, n.1)
      go false i q =
          let n = name-words s ok external t.name (datum_of t) (and_second _ _ (and_second _ _ q)) in
          (below_word t.port (ports_of s) (omega (arith, ports_limit s ok)) (and_first _ _ (and_second _ _ q)), n.0, n.1)

  -- a component's number
  end_word_lem : (z : ℤ) → is_below z (components_of s) ≡ true → fits32 z ≡ true
  end_word_lem z h = below_word z (components_of s) (omega (arith, components_limit s ok)) h

  pub telegram_row : (st : List ℤ) (at : ℕ) → telegram_fits s (telegram_in st at) ≡ true → Row st at
  unfolding telegram_fits telegram_in
  telegram_row st at h k l = go k l
    where
      t : Tail (telegram_in st at)
      t = tail-words (telegram_in st at) h

      go : (k : ℕ) → k < 8 → fits32 (word_of st (at + k)) ≡ true
      go zero l = let e : at + 0 ≡ at = omega arith in rw e (end_word_lem (word_of st at) (and_first _ _ h))
      go (suc zero) l = end_word_lem (word_of st (at + 1)) (and_first _ _ (and_second _ _ h))
      go (suc (suc zero)) l = t.0
      go (suc (suc (suc zero))) l = t.1
      go (suc (suc (suc (suc zero)))) l = t.2 0 (omega arith)
      go (suc (suc (suc (suc (suc zero))))) l = t.2 1 (omega arith)
      go (suc (suc (suc (suc (suc (suc zero)))))) l = t.2 2 (omega arith)
      go (suc (suc (suc (suc (suc (suc (suc zero))))))) l = t.2 3 (omega arith)
      go (suc (suc (suc (suc (suc (suc (suc (suc k)))))))) l = absurd (omega arith)
