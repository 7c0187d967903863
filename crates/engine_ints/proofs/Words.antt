-- Words of Bools, and the case laws of `binary_work`.
use Rattle.std.specs.Prelude.{Ok}
use Prim.Native.Nat.{ℕ, suc, ◌-◌}
use mathlib.Core.Path.{◌≡◌, refl, sym, ap, ◌∙◌}
use mathlib.Core.Bool.{Bool, true, false, not}
use native.Mathlib.Omega.{arith}
use native.Mathlib.Decide.{dec_lt, ℕ_discrete}
use lib.Dec.{leb, eqb}
use lib.IntN.{ℤ, pos, negsuc, ◌+ℤ◌, ◌-ℤ◌, ◌*ℤ◌}
use lib.Signed.{lt_z}
use mir.Syntax.{w32}
use mir.Val.{SFits, of_z, to_z}
use borrow.Author.Tests.{le-leb, lt-leb, eq-eqb, ne_eqb}
use Rattle.sheet.specs.All.{◌and◌}
use Rattle.sheet.proofs.All.{and-true, true-and, false-and, and-false}
use Rattle.sheet.specs.Table.{look_up}
use Rattle.sheet_rules.specs.Forms.{binary_of}
use Rattle.sheet_rules.proofs.Forms.{binary_mod}
use Rattle.machine_division.specs.Division.{quotient, remainder}
use Rattle.machine.specs.Values.{is_zero, same_word}
use Rattle.machine.specs.Eval.{bool_word, is_one, int_out, dividing}
use Rattle.engine_ints.specs.Work.{work_of, combined_work, binary_work}

pub bool_back : (b : Bool) → to_z w32 (of_z w32 (bool_word b)) ≡ bool_word b
bool_back true = refl
bool_back false = refl

-- a Bool's word that a call gave
pub word_back : (z : ℤ) (b : Bool) → z ≡ bool_word b → to_z w32 (of_z w32 z) ≡ bool_word b
word_back z b e = ap (λ (z : ℤ). to_z w32 (of_z w32 z)) e ∙ bool_back b

-- ---- tests of equality, which go by the bits

two_ways : (m n : ℕ) → eqb m n ≡ leb m n and leb n m
two_ways m n = elim (ℕ_discrete m n) [
  | yes e ↦ eq-eqb m n e ∙ sym (and-true _ _ (le-leb m n (omega arith)) (le-leb n m (omega arith)))
  | no e ↦ ne_eqb m n e ∙ sym (elim (dec_lt m n) [ yes l ↦ and-false _ _ (lt-leb n m l) | no l ↦ false-and _ _ (lt-leb m n (omega arith)) ])
]

pub same_bits : (a b : ℤ) → SFits w32 a → SFits w32 b → eqb (of_z w32 a) (of_z w32 b) ≡ same_word a b
same_bits (pos m) (pos n) h k = two_ways m n
same_bits (pos m) (negsuc n) h k = ne_eqb m (4294967296 - suc n) (λ e. let p = h.sfits in let q = k.sfits in omega arith) ∙ sym (false-and _ _ refl)
same_bits (negsuc m) (pos n) h k = ne_eqb (4294967296 - suc m) n (λ e. let p = h.sfits in let q = k.sfits in omega arith) ∙ sym (and-false _ _ refl)
same_bits (negsuc m) (negsuc n) h k = elim (ℕ_discrete n m) [
  | yes e ↦ eq-eqb (4294967296 - suc m) (4294967296 - suc n) (omega arith) ∙ sym (eq-eqb n m e) ∙ two_ways n m
  | no e ↦ ne_eqb (4294967296 - suc m) (4294967296 - suc n) (λ q. e (let p = h.sfits in let r = k.sfits in omega arith)) ∙ sym (ne_eqb n m e) ∙ two_ways n m
]

-- ---- and

module _ (a b : ℤ) where
  pub not_both_lem : is_zero a ≡ true → pos 0 ≡ bool_word (is_one a and is_one b)
  not_both_lem e = ap bool_word (sym (false-and _ _ (ap not e)))

  pub other_one : is_zero a ≡ false → bool_word (is_one b) ≡ bool_word (is_one a and is_one b)
  other_one e = ap bool_word (sym (true-and _ _ (ap not e)))

-- ---- operators

module _ (op : ℕ) (a b : ℤ) (l : ℕ) where
  by_operator : (n : ℕ) → op ≡ n → combined_work (binary_of n) a b l ≡ binary_work op a b l
  unfolding binary_work
  by_operator n e = sym (ap (λ n. combined_work (binary_of n) a b l) e)

  pub binary_9 : op ≡ 9 → Ok (bool_word (is_one a and is_one b), l) ≡ binary_work op a b l
  unfolding combined_work binary_of look_up
  binary_9 e = by_operator 9 e

  pub binary_10 : op ≡ 10 → Ok (bool_word (same_word a b), l) ≡ binary_work op a b l
  unfolding combined_work binary_of look_up
  binary_10 e = by_operator 10 e

  pub binary_11 : op ≡ 11 → Ok (bool_word (lt_z a b), l) ≡ binary_work op a b l
  unfolding combined_work binary_of look_up
  binary_11 e = by_operator 11 e

  pub binary_12 : op ≡ 12 → work_of (int_out (a +ℤ b) l) ≡ binary_work op a b l
  unfolding combined_work binary_of look_up
  binary_12 e = by_operator 12 e

  pub binary_13 : op ≡ 13 → work_of (int_out (a -ℤ b) l) ≡ binary_work op a b l
  unfolding combined_work binary_of look_up
  binary_13 e = by_operator 13 e

  pub binary_14 : op ≡ 14 → work_of (int_out (a *ℤ b) l) ≡ binary_work op a b l
  unfolding combined_work binary_of look_up
  binary_14 e = by_operator 14 e

  pub binary_15 : op ≡ 15 → work_of (dividing b (quotient a b) l) ≡ binary_work op a b l
  unfolding combined_work binary_of look_up
  binary_15 e = by_operator 15 e

  pub binary-rest : (op ≡ 9 → ⊥) → (op ≡ 10 → ⊥) → (op ≡ 11 → ⊥) → (op ≡ 12 → ⊥) → (op ≡ 13 → ⊥) → (op ≡ 14 → ⊥) → (op ≡ 15 → ⊥) → work_of (dividing b (remainder a b) l) ≡ binary_work op a b l
  unfolding binary_work combined_work
  binary-rest n₁ n₂ n₃ n₄ n₅ n₆ n₇ = sym (ap (λ o. combined_work o a b l) (binary_mod op n₁ n₂ n₃ n₄ n₅ n₆ n₇))
