-- What is said of a cell or of a telegram's place depends on its eight words only.
use Prim.Native.Nat.{ℕ, ◌+◌, ◌-◌, ◌<◌, ◌≤◌}
use mathlib.Core.Path.{◌≡◌, refl, ap, ◌∙◌}
use mathlib.Core.List.{List}
use mathlib.Core.Bool.{Bool, true, false}
use native.Mathlib.Omega.{arith}
use lib.Dec.{ltb, eqb}
use lib.IntN.{ℤ, pos, nat_abs}
use lib.Signed.{le_z, lt_z}
use Rattle.sheet.specs.declared.Range.{Range}
use Rattle.sheet.specs.All.{◌and◌}
use Rattle.sheet.proofs.All.{all_same}
use Rattle.sheet.specs.Names.{internal, timer_type, timeout_type, is_clock}
use Rattle.sheet_rules.specs.Fields.{declared_so}
use Rattle.sheet_rules.specs.Types.{name_range}
use Rattle.machine.specs.Values.{fits32, is_below, is_zero, in_type}
use Rattle.machine.specs.State.{word_of, telegram_in}
use Rattle.machine.specs.Valid.{data_fit, name_fits, reaction_awaits, zero_words, running_clock, clock_cell, cell_fits}
pub use Rattle.machine_passed.proofs.Declared.{all_true}

either : (b x x' y y' : Bool) → x ≡ x' → y ≡ y' → ◌≡◌ {A = Bool} (elim b [ true ↦ x | false ↦ y ]) (elim b [ true ↦ x' | false ↦ y' ])
either true x x' y y' e f = e
either false x x' y y' e f = f

both : (x x' y y' : Bool) → x ≡ x' → y ≡ y' → x and y ≡ x' and y'
both x x' y y' e f = rw (e, f) refl

pub data_same : (s : List ℕ) (g : Range) (d d' : ℕ → ℤ) → ((j : ℕ) → j < 4 → d j ≡ d' j) → data_fit s g d ≡ data_fit s g d'
unfolding data_fit
data_same s g d d' h = all_same 4 _ _ (λ j l. ap (λ (z : ℤ). elim (ltb j g.count) [ true ↦ declared_so s (g.first + j) (λ t. in_type s t z) | false ↦ is_zero z ]) (h j l))

pub name_same : (s : List ℕ) (k : ℕ) (n n' : ℤ) (d d' : ℕ → ℤ) → n ≡ n' → ((j : ℕ) → j < 4 → d j ≡ d' j) → name_fits s k n d ≡ name_fits s k n' d'
unfolding name_fits
name_same s k n n' d d' e h = rw (e, data_same s (name_range s (nat_abs n')) d d' h) refl

pub zero_from_lem : (st : List ℤ) (at : ℕ) (st' : List ℤ) (at' from : ℕ) → ((k : ℕ) → from ≤ k → k < 8 → word_of st (at + k) ≡ word_of st' (at' + k)) → zero_words st at from ≡ zero_words st' at' from
unfolding zero_words
zero_from_lem st at st' at' from h = all_same (8 - from) _ _ (λ k l. let e : at + from + k ≡ at + (from + k) = omega arith in let e' : at' + from + k ≡ at' + (from + k) = omega arith in ap is_zero (rw (e, e') (h (from + k) (omega arith) (omega arith))))

-- the eight words from `at` on of one list are those from `at'` on of another
abbrev pub Same : List ℤ → ℕ → List ℤ → ℕ → Type 0
Same st at st' at' = (k : ℕ) → k < 8 → word_of st (at + k) ≡ word_of st' (at' + k)

module _ (st : List ℤ) (at : ℕ) (st' : List ℤ) (at' : ℕ) (h : Same st at st' at') where
  first-same : word_of st at ≡ word_of st' at'
  first-same = let e : at + 0 ≡ at = omega arith in let e' : at' + 0 ≡ at' = omega arith in rw (e, e') at (h 0 (omega arith))

  later_same : (n k : ℕ) → n + k < 8 → word_of st (at + n + k) ≡ word_of st' (at' + n + k)
  later_same n k l = let e : at + n + k ≡ at + (n + k) = omega arith in let e' : at' + n + k ≡ at' + (n + k) = omega arith in rw (e, e') (h (n + k) l)

  pub zero_same : (from : ℕ) → zero_words st at from ≡ zero_words st' at' from
  zero_same from = zero_from_lem st at st' at' from (λ k m l. h k l)

  pub telegram_same : telegram_in st at ≡ telegram_in st' at'
  unfolding telegram_in
  telegram_same = rw (first-same, h 1 (omega arith), h 2 (omega arith), h 3 (omega arith), h 4 (omega arith), h 5 (omega arith), h 6 (omega arith), h 7 (omega arith)) refl

  running_same : (s : List ℕ) (e t : ℕ) → running_clock s e t st at ≡ running_clock s e t st' at'
  unfolding running_clock
  running_same s e t =
      both _ _ _ _ (ap fits32 (h 1 (omega arith))) (both _ _ _ _ (ap fits32 (h 2 (omega arith)))
      (either (eqb t timer_type) _ _ _ _
      (both _ _ _ _ (ap (le_z (pos 0)) (h 1 (omega arith))) (zero_same 2))
      (both _ _ _ _
      (either (eqb t timeout_type) _ _ _ _
      (both _ _ _ _ (ap (le_z (pos 1)) (h 1 (omega arith))) (ap (λ (z : ℤ). le_z z (word_of st (at + 2))) (h 1 (omega arith)) ∙ ap (le_z (word_of st' (at' + 1))) (h 2 (omega arith))))
      (both _ _ _ _ (ap (le_z (pos 0)) (h 1 (omega arith))) (ap (λ (z : ℤ). lt_z z (word_of st (at + 2))) (h 1 (omega arith)) ∙ ap (lt_z (word_of st' (at' + 1))) (h 2 (omega arith)))))
      (both _ _ _ _
      (name_same s internal _ _ _ _ (h 3 (omega arith)) (λ j l. later_same 4 j (omega arith)))
      (ap (reaction_awaits s e) (h 3 (omega arith)))))))

  clock_same : (s : List ℕ) (e t : ℕ) → clock_cell s e t st at ≡ clock_cell s e t st' at'
  unfolding clock_cell
  clock_same s e t =
      ap (λ (z : ℤ). elim (is_zero z) [ true ↦ zero_words st at 1 | false ↦ is_below z 2 and running_clock s e t st at ]) first-same
      ∙ either (is_zero (word_of st' at')) _ _ _ _ (zero_same 1) (both _ _ _ _ refl (running_same s e t))

  pub cell_same : (s : List ℕ) (e t : ℕ) → cell_fits s e t st at ≡ cell_fits s e t st' at'
  unfolding cell_fits
  cell_same s e t = either (is_clock t) _ _ _ _ (clock_same s e t) (both _ _ _ _ (ap (in_type s t) first-same) (zero_same 1))
