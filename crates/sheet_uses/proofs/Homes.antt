-- The chart that a node stands in, and how often it stands in bodies, told by the nodes that have it as an operand.
use Rattle.std.specs.Prelude.{Option, Some, None}
use Prim.Native.Nat.{ℕ, zero, suc, ◌+◌, ◌*◌, ◌≤◌, ◌<◌}
use mathlib.Core.Path.{◌≡◌, refl, sym, ap, ◌∙◌}
use mathlib.Core.List.{List}
use mathlib.Core.Bool.{Bool, true, false}
use native.Mathlib.Omega.{arith}
use native.Mathlib.Decide.{dec_lt}
use native.Mathlib.Nat.{zero-mul, mul-zero, one-mul}
use lib.Dec.{ltb, eqb}
use borrow.Author.Tests.{lt-ltb, le-ltb, eqb-true}
use Rattle.sheet.specs.declared.Record.{Record}
use Rattle.sheet.specs.Names.{charts, bodies, nodes, chart_bodies, root}
use Rattle.sheet.specs.Sheet.{count_of, record_of}
use Rattle.sheet.proofs.All.{all-at}
use Rattle.sheet.proofs.Sheet.{record_absent, record_present}
use Rattle.sheet_rules.specs.Fields.{one_if, number_or0, sum_below}
use Rattle.sheet_rules.specs.Uses.{stands_in, over_bodies, over_charts, stands_in_bodies, home_below, home_of, chart_or, home_chart, operand_uses, root_uses, uses_of, bodies_holding, is_call, calls_in_one_body}
use Rattle.sheet_rules.proofs.Fields.{holds-present, number-present, number_absent}
use Rattle.sheet_rules.proofs.Sums.{sum_same, sum-zero, sum_most, sum_at, sum_both, sum_some}
use Rattle.sheet_uses.proofs.Trees.{FromAbove, from_above, higher_uses, plain_uses}

module _ (s : List ℕ) where
  -- how often node n stands in the bodies of the chart numbered k, and in all bodies
  abbrev pub in_chart : ℕ → ℕ → ℕ
  in_chart k n = number_or0 (record_of s charts k) (stands_in_bodies s n)

  abbrev pub in_bodies : ℕ → ℕ
  in_bodies n = over_charts s (stands_in_bodies s n)

  -- uses of node n as an operand of node m
  abbrev pub home_uses : ℕ → ℕ → ℕ
  home_uses m n = operand_uses s (home_chart s (home_of s m)) m n

  -- ---- one chart

  weights : (f : ℕ → ℕ) → sum_below (count_of s nodes) (λ m. 0 * f m) ≡ 0
  weights f = sum-zero _ _ (λ m l. zero-mul (f m))

  body_above : (c : Record) (n : ℕ) (f : Option Record) → number_or0 f (λ b. stands_in s c n (root b)) ≡ number_or0 f (λ b. one_if (eqb (root b) n)) + sum_below (count_of s nodes) (λ m. number_or0 f (λ b. stands_in s c m (root b)) * operand_uses s c m n)
  unfolding number_or0 FromAbove
  body_above c n (Some b) = from_above s c (root b) n
  body_above c n None = omega (arith, weights (λ m. operand_uses s c m n))

  chart-there : (k : ℕ) (c : Record) → record_of s charts k ≡ Some c → home_chart s (suc k) ≡ c
  unfolding home_chart chart_or
  chart-there k c p = rw p refl

  pub chart_above : (k n : ℕ) → in_chart k n ≡ number_or0 (record_of s charts k) (root_uses s n) + sum_below (count_of s nodes) (λ m. in_chart k m * operand_uses s (home_chart s (suc k)) m n)
  unfolding stands_in_bodies root_uses over_bodies
  chart_above k n = go (record_of s charts k) refl
    where
      here : (c : Record) → record_of s charts k ≡ Some c → (m : ℕ) → in_chart k m ≡ sum_below (chart_bodies c).count (λ j. number_or0 (record_of s bodies ((chart_bodies c).first + j)) (λ b. stands_in s c m (root b)))
      here c p m = number-present _ c (stands_in_bodies s m) p

      go : (f : Option Record) → record_of s charts k ≡ f → in_chart k n ≡ number_or0 (record_of s charts k) (root_uses s n) + sum_below (count_of s nodes) (λ m. in_chart k m * operand_uses s (home_chart s (suc k)) m n)
      go (Some c) p =
          here c p n
          ∙ sum_both (chart_bodies c).count (count_of s nodes) _ (λ j. number_or0 (record_of s bodies ((chart_bodies c).first + j)) (λ b. one_if (eqb (root b) n))) (λ j m. number_or0 (record_of s bodies ((chart_bodies c).first + j)) (λ b. stands_in s c m (root b))) (λ m. operand_uses s c m n) (λ j. body_above c n (record_of s bodies ((chart_bodies c).first + j)))
          ∙ ap (λ (x : ℕ). x + sum_below (count_of s nodes) (λ m. sum_below (chart_bodies c).count (λ j. number_or0 (record_of s bodies ((chart_bodies c).first + j)) (λ b. stands_in s c m (root b))) * operand_uses s c m n)) (sym (number-present _ c (root_uses s n) p))
          ∙ ap (λ (x : ℕ). number_or0 (record_of s charts k) (root_uses s n) + x) (sum_same _ _ _ (λ m _. ap (λ (x : ℕ). x * operand_uses s c m n) (sym (here c p m)) ∙ ap (λ (c : Record). in_chart k m * operand_uses s c m n) (sym (chart-there k c p))))
      go None p = omega (arith, number_absent _ (stands_in_bodies s n) p, number_absent _ (root_uses s n) p, sum-zero (count_of s nodes) (λ m. in_chart k m * operand_uses s (home_chart s (suc k)) m n) (λ m _. ap (λ (x : ℕ). x * operand_uses s (home_chart s (suc k)) m n) (number_absent _ (stands_in_bodies s m) p) ∙ zero-mul _))

  -- ---- all charts

  -- whichever chart node m stands in, it has the operands that it has by its home
  unfoldable pub Agree : ℕ → Type 0
  Agree m = (k : ℕ) → 1 ≤ in_chart k m → (n : ℕ) → operand_uses s (home_chart s (suc k)) m n ≡ home_uses m n

  same_weight : (m k n : ℕ) → Agree m → in_chart k m * operand_uses s (home_chart s (suc k)) m n ≡ in_chart k m * home_uses m n
  unfolding Agree
  same_weight m k n h = elim (dec_lt 0 (in_chart k m)) [
    | yes l ↦ ap (λ (x : ℕ). in_chart k m * x) (h k l n)
    | no l ↦ (let z : in_chart k m ≡ 0 = omega arith in ap (λ (x : ℕ). x * operand_uses s (home_chart s (suc k)) m n) z ∙ zero-mul _ ∙ sym (ap (λ (x : ℕ). x * home_uses m n) z ∙ zero-mul _))
  ]

  pub bodies_above : (n : ℕ) → ((m : ℕ) → n < m → m < count_of s nodes → Agree m) → in_bodies n ≡ over_charts s (root_uses s n) + sum_below (count_of s nodes) (λ m. in_bodies m * home_uses m n)
  unfolding over_charts
  bodies_above n h = sum_both (count_of s charts) (count_of s nodes) (λ k. in_chart k n) (λ k. number_or0 (record_of s charts k) (root_uses s n)) (λ k m. in_chart k m) (λ m. home_uses m n) (λ k. chart_above k n ∙ ap (λ (x : ℕ). number_or0 (record_of s charts k) (root_uses s n) + x) (sum_same _ _ _ (term k)))
    where
      term : (k m : ℕ) → m < count_of s nodes → in_chart k m * operand_uses s (home_chart s (suc k)) m n ≡ in_chart k m * home_uses m n
      term k m l = elim (dec_lt n m) [
        | yes q ↦ same_weight m k n (h m q l)
        | no q ↦ ap (λ (x : ℕ). in_chart k m * x) (higher_uses s _ m n (omega arith) ∙ sym (higher_uses s _ m n (omega arith)))
      ]

  -- ---- homes

  home_skips : (m k : ℕ) → in_chart k m ≡ 0 → home_below s m (suc k) ≡ home_below s m k
  unfolding home_below
  home_skips m k z = rw (home_below, le-ltb 0 (in_chart k m) (omega arith)) refl

  home_here : (m k : ℕ) → 1 ≤ in_chart k m → home_below s m (suc k) ≡ suc k
  unfolding home_below
  home_here m k l = rw (home_below, lt-ltb 0 (in_chart k m) l) refl

  -- where a count that no chart of node m escapes is at most 1, it has one home
  home_only : (m : ℕ) (f : ℕ → ℕ) → ((k : ℕ) → 1 ≤ in_chart k m → 1 ≤ f k) → (top : ℕ) → sum_below top f ≤ 1 → (k : ℕ) → k < top → 1 ≤ in_chart k m → home_below s m top ≡ suc k
  unfolding sum_below
  home_only m f h zero q k l p = absurd (omega arith)
  home_only m f h (suc top) q k l p = elim (dec_lt k top) [
    | yes g ↦ (let z : in_chart top m ≡ 0 = elim (dec_lt 0 (in_chart top m)) [ yes a ↦ absurd (omega (arith, h top a, h k p, sum_at top f k g)) | no a ↦ omega arith ] in home_skips m top z ∙ home_only m f h top (omega arith) k g p)
    | no g ↦ (let e : top ≡ k = omega arith in rw (← e) (home_here m top (rw e p)))
  ]

  pub no_home : (m : ℕ) → in_bodies m ≡ 0 → home_of s m ≡ 0
  unfolding home_of over_charts home_below
  no_home m z = go (count_of s charts) (λ k l. omega (arith, z, sum_at (count_of s charts) (λ k. in_chart k m) k l))
    where
      go : (top : ℕ) → ((k : ℕ) → k < top → in_chart k m ≡ 0) → home_below s m top ≡ 0
      go zero h = refl
      go (suc top) h = home_skips m top (h top (omega arith)) ∙ go top (λ k l. h k (omega arith))

  in_there : (k m : ℕ) → 1 ≤ in_chart k m → k < count_of s charts
  in_there k m h = elim (dec_lt k (count_of s charts)) [
    | yes l ↦ l
    | no l ↦ absurd (omega (arith, number_absent _ (stands_in_bodies s m) (record_absent s charts k (omega arith))))
  ]

  agree_only : (m : ℕ) (f : ℕ → ℕ) → ((k : ℕ) → 1 ≤ in_chart k m → 1 ≤ f k) → sum_below (count_of s charts) f ≤ 1 → Agree m
  unfolding Agree home_of
  agree_only m f h q k p n = ap (λ (x : ℕ). operand_uses s (home_chart s x) m n) (sym (home_only m f h (count_of s charts) q k (in_there k m p) p))

  pub agree_once : (m : ℕ) → in_bodies m ≤ 1 → Agree m
  unfolding over_charts
  agree_once m q = agree_only m (λ k. in_chart k m) (λ k p. p) q

  -- where no node above stands in bodies more than once, node n does so at most as often as it is used
  pub stands_at_most : (n : ℕ) → ((m : ℕ) → n < m → m < count_of s nodes → Agree m × (in_bodies m ≤ 1)) → in_bodies n ≤ uses_of s n
  unfolding uses_of
  stands_at_most n h = omega (arith, bodies_above n (λ m l q. (h m l q).0), sum_most (count_of s nodes) (λ m. in_bodies m * home_uses m n) (λ m. home_uses m n) term)
    where
      small : (x y : ℕ) → x ≤ 1 → x * y ≤ y
      small zero y l = omega (arith, zero-mul y)
      small (suc zero) y l = omega (arith, one-mul y)
      small (suc (suc x)) y l = absurd (omega arith)

      term : (m : ℕ) → m < count_of s nodes → in_bodies m * home_uses m n ≤ home_uses m n
      term m l = elim (dec_lt n m) [
        | yes q ↦ small (in_bodies m) (home_uses m n) (h m q l).1
        | no q ↦ (let z : home_uses m n ≡ 0 = higher_uses s _ m n (omega arith) in omega (arith, ap (λ (x : ℕ). in_bodies m * x) z, mul-zero (in_bodies m)))
      ]

  -- ---- a call in one body

  held : (m k : ℕ) → 1 ≤ in_chart k m → 1 ≤ number_or0 (record_of s charts k) (λ c. over_bodies s (λ b. one_if (ltb 0 (stands_in s c m (root b)))) c)
  unfolding number_or0 stands_in_bodies over_bodies
  held m k = go (record_of s charts k)
    where
      one : (c : Record) (f : Option Record) → 1 ≤ number_or0 f (λ b. stands_in s c m (root b)) → 1 ≤ number_or0 f (λ b. one_if (ltb 0 (stands_in s c m (root b))))
      one c (Some b) l = rw (lt-ltb 0 (stands_in s c m (root b)) l) (omega arith)
      one c None l = absurd (omega arith)

      go : (f : Option Record) → 1 ≤ number_or0 f (stands_in_bodies s m) → 1 ≤ number_or0 f (λ c. over_bodies s (λ b. one_if (ltb 0 (stands_in s c m (root b)))) c)
      go (Some c) l = let j = sum_some (chart_bodies c).count (λ j. number_or0 (record_of s bodies ((chart_bodies c).first + j)) (λ b. stands_in s c m (root b))) l in omega (arith, one c (record_of s bodies ((chart_bodies c).first + j.0)) j.2, sum_at (chart_bodies c).count (λ j. number_or0 (record_of s bodies ((chart_bodies c).first + j)) (λ b. one_if (ltb 0 (stands_in s c m (root b))))) j.0 j.1)
      go None l = absurd (omega arith)

  agree_held : (m : ℕ) → bodies_holding s m ≡ 1 → Agree m
  unfolding bodies_holding over_charts
  agree_held m e = agree_only m (λ k. number_or0 (record_of s charts k) (λ c. over_bodies s (λ b. one_if (ltb 0 (stands_in s c m (root b)))) c)) (held m) (omega (arith, e))

  agree_plain : (m : ℕ) (r : Record) → record_of s nodes m ≡ Some r → is_call r ≡ false → Agree m
  unfolding Agree
  agree_plain m r p q k l n = plain_uses s _ _ m n r p q

  pub calls_agree_lem : calls_in_one_body s ≡ true → (m : ℕ) → m < count_of s nodes → Agree m
  unfolding calls_in_one_body
  calls_agree_lem h m l = go _ (record_present s nodes m l)
    where
      choose : (r : Record) → record_of s nodes m ≡ Some r → (b : Bool) → is_call r ≡ b → ◌≡◌ {A = Bool} (elim b [ true ↦ eqb (bodies_holding s m) 1 | false ↦ true ]) true → Agree m
      choose r p true e q = agree_held m (eqb-true _ _ q)
      choose r p false e q = agree_plain m r p e

      go : (r : Record) → record_of s nodes m ≡ Some r → Agree m
      go r p = choose r p (is_call r) refl (sym (holds-present _ r _ p) ∙ all-at (count_of s nodes) _ h m l)
