-- A sheet otherwise in shape: its charts have each body once, and its constants are literals.
use Rattle.std.specs.Prelude.{Some}
use Prim.Native.Nat.{ℕ, zero, suc, ◌+◌, ◌≤◌}
use mathlib.Core.Path.{◌≡◌, refl, sym, ap, ◌∙◌}
use mathlib.Core.List.{List}
use mathlib.Core.Bool.{true}
use native.Mathlib.Omega.{arith}
use borrow.Author.Tests.{eqb-true}
use Rattle.sheet.specs.declared.Record.{Record}
use Rattle.sheet.specs.Table.{look_up}
use Rattle.sheet.specs.Names.{charts, bodies, nodes, bindings, chart_bodies}
use Rattle.sheet.specs.Sheet.{count_of, record_of}
use Rattle.sheet.proofs.All.{and_first, and_second}
use Rattle.sheet.proofs.Sheet.{record_present}
use Rattle.sheet_rules.specs.Fields.{number_or0, sum_below}
use Rattle.sheet_rules.specs.Shape.{bodies_up_to, chart_shape, bodies_covered, record_shape}
use Rattle.sheet_rules.specs.Uses.{over_bodies, over_charts, gone_over}
use Rattle.sheet_rules.specs.Check.{sections_shape, shape_with, otherwise_in_shape}
use Rattle.sheet_rules.proofs.Shape.{record_shaped}
use Rattle.sheet_rules.proofs.Sums.{sum_split}
use Rattle.sheet_rules.proofs.Fields.{number-present}

module _ (s : List ℕ) (ok : otherwise_in_shape s ≡ true) where
  pub sections : sections_shape s ≡ true
  unfolding otherwise_in_shape shape_with
  sections = and_first _ _ (and_second _ _ (and_second _ _ ok))

  covered : bodies_up_to s (count_of s charts) ≡ count_of s bodies
  unfolding otherwise_in_shape shape_with bodies_covered
  covered = eqb-true _ _ (and_first _ _ (and_second _ _ (and_second _ _ (and_second _ _ ok))))

  chart_shaped : (n : ℕ) (r : Record) → record_of s charts n ≡ Some r → chart_shape s n r ≡ true
  unfolding record_shape look_up
  chart_shaped n r e = record_shaped s sections 4 n r (omega arith) e

  -- "Body ranges follow each other"
  follows : (k : ℕ) (c : Record) → record_of s charts k ≡ Some c → (chart_bodies c).first ≡ bodies_up_to s k
  unfolding chart_shape
  follows k c e = eqb-true _ _ (and_first _ _ (and_second _ _ (and_second _ _ (and_second _ _ (and_second _ _ (chart_shaped k c e))))))

  up_to : (k : ℕ) (c : Record) → record_of s charts k ≡ Some c → bodies_up_to s (suc k) ≡ (chart_bodies c).first + (chart_bodies c).count
  unfolding bodies_up_to
  up_to k c e = number-present _ c _ e

  ranges : (f : Record → ℕ) (k : ℕ) → k ≤ count_of s charts → sum_below k (λ k. number_or0 (record_of s charts k) (over_bodies s f)) ≡ sum_below (bodies_up_to s k) (λ i. number_or0 (record_of s bodies i) f)
  unfolding sum_below bodies_up_to over_bodies
  ranges f zero l = refl
  ranges f (suc k) l = go (ranges f k (omega arith)) _ (record_present s charts k l)
    where
      go : sum_below k (λ k. number_or0 (record_of s charts k) (over_bodies s f)) ≡ sum_below (bodies_up_to s k) (λ i. number_or0 (record_of s bodies i) f) → (c : Record) → record_of s charts k ≡ Some c → sum_below (suc k) (λ k. number_or0 (record_of s charts k) (over_bodies s f)) ≡ sum_below (bodies_up_to s (suc k)) (λ i. number_or0 (record_of s bodies i) f)
      go before c e =
          ap (λ (x : ℕ). sum_below k (λ k. number_or0 (record_of s charts k) (over_bodies s f)) + x) (number-present _ c (over_bodies s f) e)
          ∙ ap (λ (x : ℕ). x + over_bodies s f c) (before ∙ ap (λ (x : ℕ). sum_below x (λ i. number_or0 (record_of s bodies i) f)) (sym (follows k c e)))
          ∙ sym (sum_split (chart_bodies c).first (chart_bodies c).count (λ i. number_or0 (record_of s bodies i) f))
          ∙ ap (λ (x : ℕ). sum_below x (λ i. number_or0 (record_of s bodies i) f)) (sym (up_to k c e))

  -- "and cover section 5": going over the bodies of each chart is going over each body
  pub each-body : (f : Record → ℕ) → over_charts s (over_bodies s f) ≡ sum_below (count_of s bodies) (λ i. number_or0 (record_of s bodies i) f)
  unfolding over_charts
  each-body f = ranges f (count_of s charts) (omega arith) ∙ ap (λ (x : ℕ). sum_below x (λ i. number_or0 (record_of s bodies i) f)) covered

  -- "its count of records gone over is the number in sections 5 to 7"
  pub gone-over : gone_over s ≡ count_of s bodies + count_of s nodes + count_of s bindings
  unfolding gone_over sum_below
  gone-over = omega (arith, each-body (λ b. 1), ones (count_of s bodies) (omega arith))
    where
      ones : (n : ℕ) → n ≤ count_of s bodies → sum_below n (λ i. number_or0 (record_of s bodies i) (λ b. 1)) ≡ n
      ones zero l = refl
      ones (suc n) l = omega (arith, ones n (omega arith), number-present _ _ (λ b. 1) (record_present s bodies n l))
