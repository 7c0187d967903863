-- Which records bind an element.
use Rattle.std.specs.Prelude.{Some, None}
use Prim.Native.Nat.{ℕ, zero, suc, ◌+◌}
use mathlib.Core.List.{List}
use mathlib.Core.Path.{◌≡◌, refl}
use lib.Dec.{ltb}
use Rattle.sheet.specs.Names.{bindings, chart_parameters, bound_chart}
use Rattle.sheet_rules.specs.Fields.{number_or0, count_below}
use Rattle.sheet_rules.specs.Bindings.{records_for, chart_bound, behind, first_binding, elements_bound_in, constant_record, constant_binding}
use Rattle.sheet_limits.specs.ButLimit.{ButLimit}
use Rattle.sheet_limits.proofs.Records.{same_bindings, same_charts, same_count_of}

module _ {s s' : List ℕ} (h : ButLimit s s') where
  pub same_chart_bound : chart_bound s ≡ chart_bound s'
  unfolding chart_bound
  same_chart_bound = λ q k. elim (same_bindings h q k) [ Some b ↦ same_charts h q (bound_chart b) | None ↦ None ]

  pub same_behind_lem : behind s ≡ behind s'
  unfolding behind
  same_behind_lem = λ q k. k + records_for (number_or0 (same_chart_bound q k) (λ c. (chart_parameters c).count))

  first_binding_at : (i : ℕ) → first_binding s i ≡ first_binding s' i
  unfolding first_binding
  first_binding_at zero = refl
  first_binding_at (suc i) = λ q. same_behind_lem q (first_binding_at i q)

  pub same_first_binding : first_binding s ≡ first_binding s'
  same_first_binding = λ q i. first_binding_at i q

  pub same_elements_bound_in : elements_bound_in s ≡ elements_bound_in s'
  unfolding elements_bound_in
  same_elements_bound_in = λ q. count_below (same_count_of h q bindings) (λ i. ltb (same_first_binding q i) (same_count_of h q bindings))

  pub same_constant_binding : constant_binding s ≡ constant_binding s'
  same_constant_binding = λ q k j. same_bindings h q (constant_record k j)
