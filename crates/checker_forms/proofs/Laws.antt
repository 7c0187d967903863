-- Laws of the types of operators, one for a path of the code.
use Prim.Native.Nat.{ℕ}
use mathlib.Core.Path.{◌≡◌, refl, sym, ap, ◌∙◌}
use mathlib.Core.List.{[], ◌∷◌}
use mathlib.Core.Logic.{⊎_elim}
use types.Run.{OneOf}
use denote.Enum.Declared.{tag_of}
use mathlib.Core.Bool.{Bool, true, false}
use native.Mathlib.Omega.{arith}
use lib.Dec.{T, eqb}
use borrow.Author.Tests.{eqb-true, eqb-false}
use Rattle.sheet.specs.All.{◌and◌}
use Rattle.sheet.specs.Table.{look_up}
use Rattle.sheet_rules.specs.contracts.Typed.{the_type}
use Rattle.sheet_rules.proofs.Forms.{is_arithmetic, binary_arithmetic}
use Rattle.sheet_rules.specs.declared.Typed.{Typed}
use Rattle.sheet_rules.specs.declared.Typed.TheVariants.{Expression, Statement, Wrong}
use Rattle.sheet_rules.specs.Forms.{Binary, both, equal, less, plus, minus, times, div, modulo, binary_of}
use Rattle.sheet_rules.specs.Types.{given, is_of, same_type, of_ints, combined_type, binary_type}
use Rattle.sheet_types.proofs.Laws.{given_false}

pub same_type_lem : (x y : Typed) (t : ℕ) → x ≡ Expression t → same_type x y ≡ is_of y t
unfolding same_type
same_type_lem x y t e = rw e refl

-- the `else` of a `let Typed::Expression .. else`
pub not_same : (x y : Typed) → ((t : ℕ) → x ≡ Expression t → ⊥) → same_type x y ≡ false
unfolding same_type
not_same (Expression t) y h = absurd (h t refl)
not_same Statement y h = refl
not_same Wrong y h = refl

module _ (op : ℕ) (x y : Typed) where
  by_operator : (n : ℕ) → op ≡ n → binary_type op x y ≡ combined_type (binary_of n) x y
  unfolding binary_type
  by_operator n e = ap (λ n. combined_type (binary_of n) x y) e

  pub binary_9 : op ≡ 9 → binary_type op x y ≡ given (is_of x 0 and is_of y 0) (Expression 0)
  unfolding combined_type binary_of look_up
  binary_9 e = by_operator 9 e

  pub binary_10 : op ≡ 10 → binary_type op x y ≡ given (same_type x y) (Expression 0)
  unfolding combined_type binary_of look_up
  binary_10 e = by_operator 10 e

  pub binary_11 : op ≡ 11 → binary_type op x y ≡ given (is_of x 1 and is_of y 1) (Expression 0)
  unfolding combined_type of_ints binary_of look_up
  binary_11 e = by_operator 11 e

  pub binary-rest : (op ≡ 9 → ⊥) → (op ≡ 10 → ⊥) → (op ≡ 11 → ⊥) → binary_type op x y ≡ given (is_of x 1 and is_of y 1) (Expression 1)
  unfolding binary_type combined_type of_ints
  binary-rest a b c = go (binary_of op) (binary_arithmetic op a b c)
    where
      go : (o : Binary) → T (is_arithmetic o) → combined_type o x y ≡ given (is_of x 1 and is_of y 1) (Expression 1)
      go both h = absurd h
      go equal h = absurd h
      go less h = absurd h
      go plus h = refl
      go minus h = refl
      go times h = refl
      go div h = refl
      go modulo h = refl

  -- from 11 on both operands are Int
  pub not_two_ints : (op ≡ 9 → ⊥) → (op ≡ 10 → ⊥) → is_of x 1 and is_of y 1 ≡ false → Wrong ≡ binary_type op x y
  not_two_ints a b e = go (eqb op 11) refl
    where
      go : (t : Bool) → eqb op 11 ≡ t → Wrong ≡ binary_type op x y
      go true k = given_false _ _ e ∙ sym (binary_11 (eqb-true op 11 k))
      go false k = given_false _ _ e ∙ sym (binary-rest a b (eqb-false op 11 k))
