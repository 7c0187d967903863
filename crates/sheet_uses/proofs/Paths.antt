-- That "each exactly once" passes the same sheets, counted by fields or along paths.
use Rattle.std.specs.Prelude.{Option, Some, None}
use Prim.Native.Nat.{ℕ, zero, suc, ◌+◌, ◌*◌, ◌≤◌, ◌<◌}
use mathlib.Core.Path.{◌≡◌, refl, sym, ap, ◌∙◌}
use mathlib.Core.List.{List}
use mathlib.Core.Bool.{Bool, true, false}
use native.Mathlib.Omega.{arith}
use native.Mathlib.Decide.{dec_lt}
use native.Mathlib.Nat.{mul-zero, one-mul}
use lib.Dec.{eqb}
use borrow.Author.Tests.{eqb-true, eq-eqb, leb-true}
use Rattle.sheet.specs.declared.Record.{Record}
use Rattle.sheet.specs.All.{◌and◌}
use Rattle.sheet.specs.Names.{charts, nodes, chart_parameters, bound_chart, operator, is_literal}
use Rattle.sheet.specs.Sheet.{count_of, record_of}
use Rattle.sheet.proofs.All.{and_first, and_second, true-and, false-and, and-false, all-at, all_true, true_false}
use Rattle.sheet_rules.specs.Fields.{one_if, holds, number_or0, sum_below, count_below}
use Rattle.sheet_rules.specs.Forms.{operands, operands_in, operands_of}
use Rattle.sheet_rules.specs.Bindings.{chart_bound, first_binding, elements_bound_in, constant_binding, constant_of}
use Rattle.sheet_rules.specs.Shape.{literal_shape, constant_shape, constants_shape, records_shape, binding_shape}
use Rattle.sheet_rules.specs.Uses.{stands_in, over_bindings, constant_uses, uses_of, used_once}
use Rattle.sheet_rules.specs.Check.{shape_with, shape, otherwise_in_shape}
use Rattle.sheet_rules.proofs.Fields.{holds-present}
use Rattle.sheet_rules.proofs.Bindings.{chart-bound}
use Rattle.sheet_rules.proofs.Shape.{binding_shaped}
use Rattle.sheet_rules.proofs.Forms.{form-literal}
use Rattle.sheet_uses.specs.Paths.{stands_in_binding, paths_to, one_path, SameSheets}
use Rattle.sheet_rules.proofs.Sums.{sum_same, sum_some}
use Rattle.sheet_uses.proofs.Trees.{leaf_uses, leaf_stands, higher_uses}
use Rattle.sheet_uses.proofs.Homes.{in_bodies, home_uses, agree_once, bodies_above}
use Rattle.sheet_uses.proofs.Bodies.{sections}

module _ (s : List ℕ) (ok : otherwise_in_shape s ≡ true) where
  -- ---- constants are literals, which have no operands

  leaf : (c r : Record) → is_literal (operator r) ≡ true → operands_of s c r ≡ operands 1 0 0
  unfolding operands_of operands_in is_literal
  leaf c r q = ap (operands_in s c r) (form-literal (operator r) (leb-true _ _ (and_first _ _ q)) (leb-true _ _ (and_second _ _ q)))

  constant_leaf : (m : ℕ) → constant_shape s m ≡ true → (r : Record) × (record_of s nodes m ≡ Some r) × (is_literal (operator r) ≡ true)
  unfolding constant_shape holds
  constant_leaf m = go (record_of s nodes m) refl
    where
      go : (f : Option Record) → record_of s nodes m ≡ f → holds f (λ r. is_literal (operator r) and literal_shape s r) ≡ true → (r : Record) × (record_of s nodes m ≡ Some r) × (is_literal (operator r) ≡ true)
      go (Some r) p q = (r, p, and_first _ _ q)
      go None p q = absurd (true_false refl (sym q))

  module _ (k : ℕ) (c : Record) (shaped : binding_shape s k ≡ true) (chart : chart_bound s k ≡ Some c) where
    constant_shaped : (j : ℕ) → j < (chart_parameters c).count → (b : Record) → constant_binding s k j ≡ Some b → constant_shape s (constant_of b j) ≡ true
    unfolding binding_shape records_shape constants_shape
    constant_shaped j l b e = let x = chart-bound s k c chart in sym (holds-present _ b _ e) ∙ all-at (chart_parameters c).count _ (and_first _ _ (sym (holds-present _ c (records_shape s k x.0) x.2) ∙ sym (holds-present _ x.0 (λ r. holds (record_of s charts (bound_chart r)) (records_shape s k r)) x.1) ∙ shaped)) j l

  -- in one binding
  same_constants : (n k : ℕ) → binding_shape s k ≡ true → stands_in_binding s n k ≡ constant_uses s n k
  unfolding stands_in_binding constant_uses count_below number_or0 holds
  same_constants n k shaped = go (chart_bound s k) refl
    where
      one : (c : Record) → chart_bound s k ≡ Some c → (j : ℕ) → j < (chart_parameters c).count → (f : Option Record) → constant_binding s k j ≡ f → number_or0 f (λ b. stands_in s c n (constant_of b j)) ≡ one_if (holds f (λ b. eqb (constant_of b j) n))
      one c p j l (Some b) e = let r = constant_leaf (constant_of b j) (constant_shaped k c shaped p j l b e) in leaf_stands s c n (constant_of b j) r.0 r.1 (leaf c r.0 r.2)
      one c p j l None e = refl

      go : (f : Option Record) → chart_bound s k ≡ f → number_or0 f (λ c. sum_below (chart_parameters c).count (λ j. number_or0 (constant_binding s k j) (λ b. stands_in s c n (constant_of b j)))) ≡ number_or0 f (λ c. sum_below (chart_parameters c).count (λ j. one_if (holds (constant_binding s k j) (λ b. eqb (constant_of b j) n))))
      go (Some c) p = sum_same _ _ _ (λ j l. one c p j l (constant_binding s k j) refl)
      go None p = refl

  -- a constant has no operands
  constant_here : (m k : ℕ) → binding_shape s k ≡ true → 1 ≤ constant_uses s m k → constant_shape s m ≡ true
  unfolding constant_uses count_below number_or0 holds
  constant_here m k shaped = go (chart_bound s k) refl
    where
      named : (x : ℕ) (t : Bool) → eqb x m ≡ t → 1 ≤ one_if t → x ≡ m
      named x true e l = eqb-true x m e
      named x false e l = absurd (omega arith)

      one : (c : Record) → chart_bound s k ≡ Some c → (j : ℕ) → j < (chart_parameters c).count → (f : Option Record) → constant_binding s k j ≡ f → 1 ≤ one_if (holds f (λ b. eqb (constant_of b j) m)) → constant_shape s m ≡ true
      one c p j l (Some b) e h = rw (← named (constant_of b j) _ refl h) (constant_shaped k c shaped p j l b e)
      one c p j l None e h = absurd (omega arith)

      go : (f : Option Record) → chart_bound s k ≡ f → 1 ≤ number_or0 f (λ c. sum_below (chart_parameters c).count (λ j. one_if (holds (constant_binding s k j) (λ b. eqb (constant_of b j) m)))) → constant_shape s m ≡ true
      go (Some c) p l = let j = sum_some (chart_parameters c).count (λ j. one_if (holds (constant_binding s k j) (λ b. eqb (constant_of b j) m))) l in one c p j.0 j.1 (constant_binding s k j.0) refl j.2
      go None p l = absurd (omega arith)

  constants_same : (n : ℕ) → over_bindings s (stands_in_binding s n) ≡ over_bindings s (constant_uses s n)
  constants_same n = sum_same _ _ _ (λ i l. same_constants n (first_binding s i) (binding_shaped s (sections s ok) i l))

  no_uses : (m n : ℕ) → 1 ≤ over_bindings s (constant_uses s m) → home_uses s m n ≡ 0
  no_uses m n h = let i = sum_some (elements_bound_in s) (λ i. constant_uses s m (first_binding s i)) h in let r = constant_leaf m (constant_here m (first_binding s i.0) (binding_shaped s (sections s ok) i.0 i.1) i.2) in leaf_uses s _ m n r.0 r.1 (leaf _ r.0 r.2)

  -- ---- where each node above has one path, the paths to a node are its uses

  paths_are : (n : ℕ) → ((m : ℕ) → n < m → m < count_of s nodes → paths_to s m ≡ 1) → paths_to s n ≡ uses_of s n
  unfolding paths_to uses_of
  paths_are n h = omega (arith, bodies_above s n (λ m l q. agree_once s m (omega (arith, h m l q))), constants_same n, sum_same (count_of s nodes) (λ m. in_bodies s m * home_uses s m n) (λ m. home_uses s m n) term)
    where
      weight : (m x : ℕ) → in_bodies s m ≡ x → x + over_bindings s (constant_uses s m) ≡ 1 → x * home_uses s m n ≡ home_uses s m n
      weight m zero e q = let z : home_uses s m n ≡ 0 = no_uses m n (omega arith) in ap (λ (y : ℕ). zero * y) z ∙ mul-zero zero ∙ sym z
      weight m (suc zero) e q = one-mul _
      weight m (suc (suc x)) e q = absurd (omega arith)

      term : (m : ℕ) → m < count_of s nodes → in_bodies s m * home_uses s m n ≡ home_uses s m n
      term m l = elim (dec_lt n m) [
        | yes q ↦ weight m (in_bodies s m) refl (omega (arith, h m q l, constants_same m))
        | no q ↦ (let z : home_uses s m n ≡ 0 = higher_uses s _ m n (omega arith) in ap (λ (y : ℕ). in_bodies s m * y) z ∙ mul-zero _ ∙ sym z)
      ]

  from_uses : ((n : ℕ) → n < count_of s nodes → uses_of s n ≡ 1) → (k n : ℕ) → count_of s nodes ≤ n + k → n < count_of s nodes → paths_to s n ≡ 1
  from_uses h zero n g l = absurd (omega arith)
  from_uses h (suc k) n g l = paths_are n (λ m q r. from_uses h k m (omega arith) r) ∙ h n l

  same_once : one_path s ≡ used_once s
  unfolding one_path used_once
  same_once = both_ways _ _
      (λ h. all_true _ _ (λ n l. eq-eqb _ _ (sym (paths_are n (λ m q r. eqb-true _ _ (all-at _ _ h m r))) ∙ eqb-true _ _ (all-at _ _ h n l))))
      (λ h. all_true _ _ (λ n l. eq-eqb _ _ (from_uses (λ m q. eqb-true _ _ (all-at _ _ h m q)) (count_of s nodes) n (omega arith) l)))
    where
      both_ways : (a b : Bool) → (a ≡ true → b ≡ true) → (b ≡ true → a ≡ true) → a ≡ b
      both_ways true b f g = sym (f refl)
      both_ways false true f g = g refl
      both_ways false false f g = refl

-- ---- every sheet

shape_parts : (s : List ℕ) (b : Bool) → shape_with b s ≡ (b and otherwise_in_shape s)
unfolding shape_with otherwise_in_shape
shape_parts s true = sym (true-and _ _ refl)
shape_parts s false = and-false _ _ (and-false _ _ (and-false _ _ (and-false _ _ (and-false _ _ (and-false _ _ (false-and _ _ refl)))))) ∙ sym (false-and _ _ refl)

pub same_sheets : SameSheets
unfolding shape
same_sheets s = go (otherwise_in_shape s) refl
  where
    go : (b : Bool) → otherwise_in_shape s ≡ b → shape_with (one_path s) s ≡ shape_with (used_once s) s
    go true e = ap (λ (x : Bool). shape_with x s) (same_once s e)
    go false e = shape_parts s (one_path s) ∙ and-false _ _ e ∙ sym (and-false _ _ e) ∙ sym (shape_parts s (used_once s))
