-- How often nodes are used.
use Prim.Native.Nat.{ℕ, zero, suc, ◌+◌}
use mathlib.Core.List.{List}
use mathlib.Core.Bool.{true, false}
use mathlib.Core.Path.{◌≡◌, refl}
use lib.Dec.{ltb, eqb}
use Rattle.sheet.specs.declared.Record.{Record}
use Rattle.sheet.specs.All.{all_below}
use Rattle.sheet.specs.Names.{charts, nodes, chart_parameters, chart_bodies, root}
use Rattle.sheet_rules.specs.Fields.{holds, number_or0, one_if, sum_below, count_below}
use Rattle.sheet_rules.specs.Forms.{operand_count, operand_at}
use Rattle.sheet_rules.specs.Bindings.{constant_of}
use Rattle.sheet_rules.specs.Uses.{lower_only, stands_step, stands_f, stands_in, over_bodies, over_charts, over_bindings, stands_in_bodies, home_below, home_of, no_chart, chart_or, home_chart, operand_fields, operand_uses, root_uses, constant_uses, uses_of, used_once}
use Rattle.sheet_limits.specs.ButLimit.{ButLimit}
use Rattle.sheet_limits.proofs.Forms.{same_operands_of}
use Rattle.sheet_limits.proofs.Records.{same_bodies, same_charts, same_count_of, same_nodes}
use Rattle.sheet_limits.proofs.Bindings.{same_chart_bound, same_first_binding, same_elements_bound_in, same_constant_binding}

module _ {s s' : List ℕ} (h : ButLimit s s') where
  pub same_stands_step : stands_step s ≡ stands_step s'
  unfolding stands_step
  same_stands_step = λ q c n f m. one_if (eqb m n) + number_or0 (same_nodes h q m) (λ r. sum_below (operand_count (same_operands_of h q c r)) (λ j. f (operand_at r (same_operands_of h q c r) j)))

  stands_f_at : (c : Record) (n a : ℕ) → stands_f s c n a ≡ stands_f s' c n a
  unfolding stands_f
  stands_f_at c n zero = λ q m. 0
  stands_f_at c n (suc k) = λ q m. same_stands_step q c n (lower_only m (stands_f_at c n k q)) m

  pub same_stands_f : stands_f s ≡ stands_f s'
  same_stands_f = λ q c n a. stands_f_at c n a q

  pub same_stands_in : stands_in s ≡ stands_in s'
  unfolding stands_in
  same_stands_in = λ q c n m. same_stands_f q c n (suc m) m

  pub same_over_bodies : over_bodies s ≡ over_bodies s'
  unfolding over_bodies
  same_over_bodies = λ q f c. sum_below (chart_bodies c).count (λ j. number_or0 (same_bodies h q ((chart_bodies c).first + j)) f)

  pub same_over_charts : over_charts s ≡ over_charts s'
  unfolding over_charts
  same_over_charts = λ q f. sum_below (same_count_of h q charts) (λ k. number_or0 (same_charts h q k) f)

  pub same_over_bindings : over_bindings s ≡ over_bindings s'
  same_over_bindings = λ q f. sum_below (same_elements_bound_in h q) (λ i. f (same_first_binding h q i))

  pub same_stands_in_bodies : stands_in_bodies s ≡ stands_in_bodies s'
  unfolding stands_in_bodies
  same_stands_in_bodies = λ q n c. same_over_bodies q (λ b. same_stands_in q c n (root b)) c

  home_below_at : (n a : ℕ) → home_below s n a ≡ home_below s' n a
  unfolding home_below
  home_below_at n zero = refl
  home_below_at n (suc k) = λ q. elim (ltb 0 (number_or0 (same_charts h q k) (same_stands_in_bodies q n))) [ true ↦ suc k | false ↦ home_below_at n k q ]

  pub same_home_below : home_below s ≡ home_below s'
  same_home_below = λ q n a. home_below_at n a q

  pub same_home_of : home_of s ≡ home_of s'
  unfolding home_of
  same_home_of = λ q n. same_home_below q n (same_count_of h q charts)

  home_chart_at : (a : ℕ) → home_chart s a ≡ home_chart s' a
  unfolding home_chart
  home_chart_at zero = refl
  home_chart_at (suc k) = λ q. chart_or no_chart (same_charts h q k)

  pub same_home_chart : home_chart s ≡ home_chart s'
  same_home_chart = λ q a. home_chart_at a q

  pub same_operand_fields : operand_fields s ≡ operand_fields s'
  unfolding operand_fields
  same_operand_fields = λ q c m n. number_or0 (same_nodes h q m) (λ r. count_below (operand_count (same_operands_of h q c r)) (λ j. eqb (operand_at r (same_operands_of h q c r) j) n))

  pub same_operand_uses : operand_uses s ≡ operand_uses s'
  unfolding operand_uses
  same_operand_uses = λ q c m n. lower_only m (same_operand_fields q c m) n

  pub same_root_uses : root_uses s ≡ root_uses s'
  unfolding root_uses
  same_root_uses = λ q n c. same_over_bodies q (λ b. one_if (eqb (root b) n)) c

  pub same_constant_uses : constant_uses s ≡ constant_uses s'
  unfolding constant_uses
  same_constant_uses = λ q n k. number_or0 (same_chart_bound h q k) (λ c. count_below (chart_parameters c).count (λ j. holds (same_constant_binding h q k j) (λ b. eqb (constant_of b j) n)))

  pub same_uses_of : uses_of s ≡ uses_of s'
  unfolding uses_of
  same_uses_of = λ q n.
      same_over_charts q (same_root_uses q n)
      + same_over_bindings q (same_constant_uses q n)
      + sum_below (same_count_of h q nodes) (λ m. same_operand_uses q (same_home_chart q (same_home_of q m)) m n)

  pub same_used_once : used_once s ≡ used_once s'
  unfolding used_once
  same_used_once = λ q. all_below (same_count_of h q nodes) (λ n. eqb (same_uses_of q n) 1)
