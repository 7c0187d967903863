-- Where a node stands: the recursion from a tree's root down, and from a node to those that have it as an operand.
use Rattle.std.specs.Prelude.{Option, Some, None}
use Prim.Native.Nat.{ℕ, zero, suc, ◌+◌, ◌*◌, ◌≤◌, ◌<◌}
use mathlib.Core.Path.{◌≡◌, refl, sym, ap, ◌∙◌, fun_ext}
use mathlib.Core.List.{List}
use mathlib.Core.Bool.{Bool, true, false}
use native.Mathlib.Omega.{arith}
use native.Mathlib.Decide.{dec_lt}
use native.Mathlib.Nat.{zero-mul, add-mul}
use lib.Dec.{ltb, eqb}
use borrow.Author.Tests.{ltb-true, lt-ltb, le-ltb, eq-eqb}
use Rattle.sheet.specs.declared.Record.{Record}
use Rattle.sheet.specs.Names.{nodes}
use Rattle.sheet.specs.Sheet.{count_of, record_of}
use Rattle.sheet.proofs.All.{true_false}
use Rattle.sheet.proofs.Sheet.{record_absent}
use Rattle.sheet_rules.specs.declared.Operands.{Operands}
use Rattle.sheet_rules.specs.Fields.{one_if, number_or0, sum_below, count_below}
use Rattle.sheet_rules.specs.Forms.{operands, operands_of, operand_count, operand_at}
use Rattle.sheet_rules.specs.Uses.{lower_only, stands_step, stands_f, stands_in, operand_fields, operand_uses, is_call}
use Rattle.sheet_rules.proofs.Fields.{number-present, number_absent}
use Rattle.sheet_rules.proofs.Forms.{operands-plain}
use Rattle.sheet_rules.proofs.Sums.{one_other, sum_same, sum-zero, sum-add, sum_both, sum_pick}

pub lower_same : (m : ℕ) (f g : ℕ → ℕ) → ((o : ℕ) → o < m → f o ≡ g o) → lower_only m f ≡ lower_only m g
unfolding lower_only
lower_same m f g h = fun_ext (λ o. go o (ltb o m) (ltb-true o m))
  where
    go : (o : ℕ) (t : Bool) → (t ≡ true → o < m) → ◌≡◌ {A = ℕ} (elim t [ true ↦ f o | false ↦ 0 ]) (elim t [ true ↦ g o | false ↦ 0 ])
    go o true q = h o (q refl)
    go o false q = refl

pub lower_is : (m o : ℕ) (f : ℕ → ℕ) → o < m → lower_only m f o ≡ f o
unfolding lower_only
lower_is m o f h = rw (lower_only, lt-ltb o m h) refl

pub not_lower : (m o : ℕ) (f : ℕ → ℕ) → m ≤ o → lower_only m f o ≡ 0
unfolding lower_only
not_lower m o f h = rw (lower_only, le-ltb o m h) refl

module _ (s : List ℕ) (c : Record) where
  -- how often node n stands in the trees of the operands of node m
  unfoldable pub below_in_lem : ℕ → ℕ → ℕ
  below_in_lem n m = number_or0 (record_of s nodes m) (λ r. sum_below (operand_count (operands_of s c r)) (λ j. lower_only m (stands_in s c n) (operand_at r (operands_of s c r) j)))

  enough : (n k k' m : ℕ) → m < k → m < k' → stands_f s c n k m ≡ stands_f s c n k' m
  unfolding stands_f
  enough n zero k' m h h' = absurd (omega arith)
  enough n (suc k) zero m h h' = absurd (omega arith)
  enough n (suc k) (suc k') m h h' = ap (λ f. stands_step s c n f m) (lower_same m (stands_f s c n k) (stands_f s c n k') (λ o l. enough n k k' o (omega arith) (omega arith)))

  stands_step_lem : (n m : ℕ) → stands_in s c n m ≡ one_if (eqb m n) + below_in_lem n m
  unfolding stands_f stands_in stands_step below_in_lem
  stands_step_lem n m = ap (λ f. stands_step s c n f m) (lower_same m (stands_f s c n m) (stands_in s c n) (λ o l. enough n m (suc o) o l (omega arith)))

  -- ---- the operands of one node

  pub no_operands : (m n : ℕ) → record_of s nodes m ≡ None → operand_uses s c m n ≡ 0
  unfolding operand_fields operand_uses
  no_operands m n p = elim (dec_lt n m) [
    | yes l ↦ lower_is m n _ l ∙ number_absent _ _ p
    | no l ↦ not_lower m n _ (omega arith)
  ]

  pub higher_uses : (m n : ℕ) → m ≤ n → operand_uses s c m n ≡ 0
  unfolding operand_uses
  higher_uses m n l = not_lower m n _ l

  -- where operand nodes have lower numbers, every field for an operand that names a node is a use of it
  pub all_fields : (m n : ℕ) → (m ≤ n → operand_fields s c m n ≡ 0) → operand_uses s c m n ≡ operand_fields s c m n
  unfolding operand_uses
  all_fields m n h = elim (dec_lt n m) [
    | yes l ↦ lower_is m n _ l
    | no l ↦ not_lower m n _ (omega arith) ∙ sym (h (omega arith))
  ]

  pub uses-are : (m n : ℕ) (r : Record) → record_of s nodes m ≡ Some r → n < m → operand_uses s c m n ≡ count_below (operand_count (operands_of s c r)) (λ j. eqb (operand_at r (operands_of s c r) j) n)
  unfolding operand_fields operand_uses
  uses-are m n r p l = lower_is m n _ l ∙ number-present _ r _ p

  -- operand fields that name node n and are lower
  lower_uses : (m n : ℕ) (r : Record) → record_of s nodes m ≡ Some r → sum_below (operand_count (operands_of s c r)) (λ j. lower_only m (λ o. one_if (eqb o n)) (operand_at r (operands_of s c r) j)) ≡ operand_uses s c m n
  unfolding count_below
  lower_uses m n r p = elim (dec_lt n m) [
    | yes l ↦ sum_same _ _ _ (λ j _. inside l (operand_at r (operands_of s c r) j)) ∙ sym (uses-are m n r p l)
    | no l ↦ sum-zero _ _ (λ j _. outside l (operand_at r (operands_of s c r) j)) ∙ sym (higher_uses m n (omega arith))
  ]
    where
      inside : n < m → (o : ℕ) → lower_only m (λ o. one_if (eqb o n)) o ≡ one_if (eqb o n)
      inside l o = elim (dec_lt o m) [
        | yes q ↦ lower_is m o (λ o. one_if (eqb o n)) q
        | no q ↦ not_lower m o (λ o. one_if (eqb o n)) (omega arith) ∙ sym (one_other o n (λ e. omega arith))
      ]

      outside : (n < m → ⊥) → (o : ℕ) → lower_only m (λ o. one_if (eqb o n)) o ≡ 0
      outside l o = elim (dec_lt o m) [
        | yes q ↦ lower_is m o (λ o. one_if (eqb o n)) q ∙ one_other o n (λ e. omega arith)
        | no q ↦ not_lower m o (λ o. one_if (eqb o n)) (omega arith)
      ]

  -- ---- from a node to those that have it as an operand

  -- how often node n stands in the tree of node m: as its root, or as an operand of a node that stands there
  unfoldable pub FromAbove : ℕ → Type 0
  FromAbove m = (n : ℕ) → stands_in s c n m ≡ one_if (eqb m n) + sum_below (count_of s nodes) (λ i. stands_in s c i m * operand_uses s c i n)

  zeros : (f : ℕ → ℕ) → sum_below (count_of s nodes) (λ i. 0 * f i) ≡ 0
  zeros f = sum-zero _ _ (λ i l. zero-mul (f i))

  below_absent : (m n : ℕ) → record_of s nodes m ≡ None → below_in_lem n m ≡ 0
  unfolding below_in_lem
  below_absent m n p = number_absent _ _ p

  lower_above_lem : (m n o : ℕ) → (o < m → FromAbove o) → lower_only m (stands_in s c n) o ≡ lower_only m (λ o. one_if (eqb o n)) o + sum_below (count_of s nodes) (λ i. lower_only m (stands_in s c i) o * operand_uses s c i n)
  unfolding FromAbove
  lower_above_lem m n o h = elim (dec_lt o m) [
    | yes l ↦ lower_is m o (stands_in s c n) l ∙ h l n ∙ ap_add (sym (lower_is m o (λ o. one_if (eqb o n)) l)) (sum_same _ _ _ (λ i _. ap (λ (x : ℕ). x * operand_uses s c i n) (sym (lower_is m o (stands_in s c i) l))))
    | no l ↦ not_lower m o (stands_in s c n) (omega arith) ∙ ap_add (sym (not_lower m o (λ o. one_if (eqb o n)) (omega arith))) (sym (zeros (λ i. operand_uses s c i n)) ∙ sum_same _ _ _ (λ i _. ap (λ (x : ℕ). x * operand_uses s c i n) (sym (not_lower m o (stands_in s c i) (omega arith)))))
  ]
    where
      ap_add : {a b x y : ℕ} → a ≡ b → x ≡ y → a + x ≡ b + y
      ap_add p q = omega (arith, p, q)

  below_above : (m n : ℕ) → ((o : ℕ) → o < m → FromAbove o) → below_in_lem n m ≡ operand_uses s c m n + sum_below (count_of s nodes) (λ i. below_in_lem i m * operand_uses s c i n)
  unfolding below_in_lem
  below_above m n h = go (record_of s nodes m) refl
    where
      present : (r : Record) → record_of s nodes m ≡ Some r → (n : ℕ) → below_in_lem n m ≡ sum_below (operand_count (operands_of s c r)) (λ j. lower_only m (stands_in s c n) (operand_at r (operands_of s c r) j))
      present r p n = number-present _ r (λ r. sum_below (operand_count (operands_of s c r)) (λ j. lower_only m (stands_in s c n) (operand_at r (operands_of s c r) j))) p

      go : (f : Option Record) → record_of s nodes m ≡ f → below_in_lem n m ≡ operand_uses s c m n + sum_below (count_of s nodes) (λ i. below_in_lem i m * operand_uses s c i n)
      go (Some r) p =
          present r p n
          ∙ sum_both (operand_count (operands_of s c r)) (count_of s nodes) _ (λ j. lower_only m (λ o. one_if (eqb o n)) (operand_at r (operands_of s c r) j)) (λ j i. lower_only m (stands_in s c i) (operand_at r (operands_of s c r) j)) (λ i. operand_uses s c i n) (λ j. lower_above_lem m n (operand_at r (operands_of s c r) j) (h (operand_at r (operands_of s c r) j)))
          ∙ ap (λ (x : ℕ). x + sum_below (count_of s nodes) (λ i. sum_below (operand_count (operands_of s c r)) (λ j. lower_only m (stands_in s c i) (operand_at r (operands_of s c r) j)) * operand_uses s c i n)) (lower_uses m n r p)
          ∙ ap (λ (x : ℕ). operand_uses s c m n + x) (sum_same _ _ _ (λ i _. ap (λ (x : ℕ). x * operand_uses s c i n) (sym (present r p i))))
      go None p = omega (arith, below_absent m n p, no_operands m n p, sum-zero (count_of s nodes) (λ i. below_in_lem i m * operand_uses s c i n) (λ i _. ap (λ (x : ℕ). x * operand_uses s c i n) (below_absent m i p) ∙ zero-mul (operand_uses s c i n)))

  picked : (m n : ℕ) → sum_below (count_of s nodes) (λ i. one_if (eqb m i) * operand_uses s c i n) ≡ operand_uses s c m n
  picked m n = elim (dec_lt m (count_of s nodes)) [
    | yes l ↦ sum_pick (count_of s nodes) m (λ i. operand_uses s c i n) l
    | no l ↦ sum-zero _ _ (λ i q. ap (λ (x : ℕ). x * operand_uses s c i n) (one_other m i (λ e. omega arith)) ∙ zero-mul (operand_uses s c i n)) ∙ sym (no_operands m n (record_absent s nodes m (omega arith)))
  ]

  above_step : (m : ℕ) → ((o : ℕ) → o < m → FromAbove o) → FromAbove m
  unfolding FromAbove
  above_step m h n = omega (arith, stands_step_lem n m, below_above m n h, spread, sum-add (count_of s nodes) (λ i. one_if (eqb m i) * operand_uses s c i n) (λ i. below_in_lem i m * operand_uses s c i n), picked m n)
    where
      spread : sum_below (count_of s nodes) (λ i. stands_in s c i m * operand_uses s c i n) ≡ sum_below (count_of s nodes) (λ i. one_if (eqb m i) * operand_uses s c i n + below_in_lem i m * operand_uses s c i n)
      spread = sum_same _ _ _ (λ i _. ap (λ (x : ℕ). x * operand_uses s c i n) (stands_step_lem i m) ∙ add-mul (one_if (eqb m i)) (below_in_lem i m) (operand_uses s c i n))

  above_below : (k m : ℕ) → m < k → FromAbove m
  above_below zero m l = absurd (omega arith)
  above_below (suc k) m l = above_step m (λ o q. above_below k o (omega arith))

  pub from_above : (m : ℕ) → FromAbove m
  from_above m = above_below (suc m) m (omega arith)

-- a node that is no call has the same operands in every chart
pub plain_uses : (s : List ℕ) (c c' : Record) (m n : ℕ) (r : Record) → record_of s nodes m ≡ Some r → is_call r ≡ false → operand_uses s c m n ≡ operand_uses s c' m n
plain_uses s c c' m n r p q = elim (dec_lt n m) [
  | yes l ↦ uses-are s c m n r p l ∙ ap (λ (o : Operands). count_below (operand_count o) (λ j. eqb (operand_at r o j) n)) (operands-plain s c c' r (λ e. true_false (eq-eqb _ _ e) q)) ∙ sym (uses-are s c' m n r p l)
  | no l ↦ higher_uses s c m n (omega arith) ∙ sym (higher_uses s c' m n (omega arith))
]

-- a node without operands
module _ (s : List ℕ) (c : Record) where
  pub leaf_uses : (m n : ℕ) (r : Record) → record_of s nodes m ≡ Some r → operands_of s c r ≡ operands 1 0 0 → operand_uses s c m n ≡ 0
  unfolding count_below sum_below
  leaf_uses m n r p q = elim (dec_lt n m) [
    | yes l ↦ uses-are s c m n r p l ∙ ap (λ (o : Operands). count_below (operand_count o) (λ j. eqb (operand_at r o j) n)) q
    | no l ↦ higher_uses s c m n (omega arith)
  ]

  pub leaf_stands : (n m : ℕ) (r : Record) → record_of s nodes m ≡ Some r → operands_of s c r ≡ operands 1 0 0 → stands_in s c n m ≡ one_if (eqb m n)
  unfolding below_in_lem sum_below
  leaf_stands n m r p q = omega (arith, stands_step_lem s c n m, number-present _ r (λ r. sum_below (operand_count (operands_of s c r)) (λ j. lower_only m (stands_in s c n) (operand_at r (operands_of s c r) j))) p ∙ ap (λ (o : Operands). sum_below (operand_count o) (λ j. lower_only m (stands_in s c n) (operand_at r o j))) q)
