-- Laws of the test of a cell, one for a path of the code.
use Prim.Native.Nat.{ℕ, ◌+◌, ◌-◌, ◌≤◌}
use mathlib.Core.Path.{◌≡◌, refl, sym, ap, ◌∙◌}
use mathlib.Core.List.{List}
use mathlib.Core.Bool.{Bool, true, false, not}
use native.Mathlib.Omega.{arith}
use lib.IntN.{ℤ, pos}
use lib.Signed.{le_z, lt_z}
use mir.Syntax.{w32}
use mir.Val.{to_z, of_z}
use borrow.Author.Tests.{eq-eqb, ne_eqb}
use Rattle.sheet.specs.All.{◌and◌, all_below}
use Rattle.sheet.specs.Names.{is_clock}
use Rattle.sheet.proofs.All.{first_fails_lem, first_holds}
use Rattle.machine.specs.Values.{fits32, is_below, is_zero, in_type}
use Rattle.machine.specs.State.{word_of}
use Rattle.machine.specs.Valid.{name_fits, reaction_awaits, zero_words, running_clock, clock_cell, cell_fits}
use Rattle.machine_states.proofs.Frame.{name_same}
use Rattle.sheet_types.proofs.Laws.{no, so}
use Rattle.engine_valid_words.proofs.Laws.{read_back}
use Rattle.engine_valid_cells.specs.Parts.{value_fits}

-- a clock's name and data
pub clock_data : (s : List ℕ) (k : ℕ) (st : List ℤ) (at : ℕ) → name_fits s k (word_of st (at + 3)) (λ j. word_of st (at + 3 + 1 + j)) ≡ name_fits s k (word_of st (at + 3)) (λ j. word_of st (at + 4 + j))
clock_data s k st at = name_same s k _ _ _ _ refl (λ j l. let e : at + 3 + 1 + j ≡ at + 4 + j = omega arith in ap (word_of st) e)

word_fits : (z w : ℤ) → z ≡ w → fits32 z ≡ true → fits32 w ≡ true
word_fits z w e h = sym (ap fits32 e) ∙ h

pub none_left : (st : List ℤ) (at from : ℕ) → 8 ≤ from → true ≡ zero_words st at from
unfolding zero_words all_below
none_left st at from h = let e : 8 - from ≡ 0 = omega arith in rw e refl

module _ (t : ℕ) (z p : ℤ) where
  pub of_timeout : t ≡ 5 → le_z (pos 1) z and le_z z p ≡ value_fits t z p
  unfolding value_fits
  of_timeout e = rw (value_fits, eq-eqb t 5 e) refl

  pub of_cycler : (t ≡ 5 → ⊥) → le_z (pos 0) z and lt_z z p ≡ value_fits t z p
  unfolding value_fits
  of_cycler n = rw (value_fits, ne_eqb t 5 n) refl

-- a running clock, where z and p are its value and period as read, and a the first test
module _ (s : List ℕ) (e t : ℕ) (st : List ℤ) (at : ℕ) (z p : ℤ) (a : Bool) (i : z ≡ word_of st (at + 1)) (f : fits32 z ≡ true) (j : p ≡ word_of st (at + 2)) (g : fits32 p ≡ true) where
  a_timer : t ≡ 4 → le_z (pos 0) (word_of st (at + 1)) and zero_words st at 2 ≡ running_clock s e t st at
  unfolding running_clock ◌and◌
  a_timer q = rw (running_clock, word_fits z _ i f, word_fits p _ j g, eq-eqb t 4 q) refl

  another_clock : (t ≡ 4 → ⊥) → value_fits t (word_of st (at + 1)) (word_of st (at + 2)) and name_fits s 1 (word_of st (at + 3)) (λ k. word_of st (at + 4 + k)) and reaction_awaits s e (word_of st (at + 3)) ≡ running_clock s e t st at
  unfolding running_clock value_fits ◌and◌
  another_clock n = rw (running_clock, word_fits z _ i f, word_fits p _ j g, ne_eqb t 4 n) refl

  module _ (q : a ≡ le_z (pos 0) (to_z w32 (of_z w32 z))) where
    from_0 : a ≡ le_z (pos 0) (word_of st (at + 1))
    from_0 = q ∙ ap (λ (x : ℤ). le_z (pos 0) x) (read_back z _ i f)

    pub timer_below : t ≡ 4 → not a ≡ true → false ≡ running_clock s e t st at
    timer_below h k = first_fails_lem _ _ (no from_0 k) ∙ a_timer h

    pub timer_zeros : (x : Bool) → t ≡ 4 → not a ≡ false → x ≡ zero_words st at 2 → x ≡ running_clock s e t st at
    timer_zeros x h k y = first_holds _ _ _ (so from_0 k) y ∙ a_timer h

  module _ (q : a ≡ value_fits t (to_z w32 (of_z w32 z)) (to_z w32 (of_z w32 p))) where
    in_period : a ≡ value_fits t (word_of st (at + 1)) (word_of st (at + 2))
    in_period = q ∙ ap (λ (x : ℤ). value_fits t x (to_z w32 (of_z w32 p))) (read_back z _ i f) ∙ ap (value_fits t (word_of st (at + 1))) (read_back p _ j g)

    pub not_in_period : (t ≡ 4 → ⊥) → not a ≡ true → false ≡ running_clock s e t st at
    not_in_period h k = first_fails_lem _ _ (no in_period k) ∙ another_clock h

    pub clock-name : (x : Bool) → (t ≡ 4 → ⊥) → not a ≡ false → x ≡ name_fits s 1 (word_of st (at + 3)) (λ k. word_of st (at + 4 + k)) and reaction_awaits s e (word_of st (at + 3)) → x ≡ running_clock s e t st at
    clock-name x h k y = first_holds _ _ _ (so in_period k) y ∙ another_clock h

module _ (s : List ℕ) (e t : ℕ) (st : List ℤ) (at : ℕ) where
  pub stopped : is_zero (word_of st at) ≡ true → zero_words st at 1 ≡ clock_cell s e t st at
  unfolding clock_cell
  stopped h = rw (clock_cell, h) refl

  pub runs : is_zero (word_of st at) ≡ false → is_below (word_of st at) 2 and running_clock s e t st at ≡ clock_cell s e t st at
  unfolding clock_cell
  runs h = rw (clock_cell, h) refl

  pub clock_in : is_clock t ≡ true → clock_cell s e t st at ≡ cell_fits s e t st at
  unfolding cell_fits
  clock_in h = rw (cell_fits, h) refl

  pub value_in : is_clock t ≡ false → in_type s t (word_of st at) and zero_words st at 1 ≡ cell_fits s e t st at
  unfolding cell_fits
  value_in h = rw (cell_fits, h) refl
