-- Values, their types and bound elements are the same on both sheets. As with the rules, a law has the body of its definition, read on the way from one sheet to the other.
use Rattle.std.specs.Prelude.{Some, None}
use Prim.Native.Nat.{ℕ, suc, ◌-◌}
use mathlib.Core.List.{List}
use mathlib.Core.Bool.{true, false}
use mathlib.Core.Path.{◌≡◌, refl}
use lib.Dec.{ltb, leb}
use lib.IntN.{ℤ, pos, negsuc}
use Rattle.sheet.specs.Names.{default_member, bound_chart, is_clock, names}
use Rattle.sheet.specs.All.{◌and◌}
use Rattle.sheet_rules.specs.Fields.{number_or0, sum_below}
use Rattle.sheet_rules.specs.DataTypes.{DataType, bool, int, component, port, enumerated_type, no_data, data_type_of}
use Rattle.machine.specs.Values.{fits32, is_below, record_by, in_data_type, in_type, default_in, default_of, has_default, is_bound, binding_at, binding_of, chart_of, first_cell}
use Rattle.sheet_limits.specs.ButLimit.{ButLimit}
use Rattle.sheet_limits.proofs.Fields.{same_components_of, same_declared_so, same_externals_of, same_members_of, same_ports_of}
use Rattle.sheet_limits.proofs.Records.{same_bindings, same_charts, same_enumerated_types, same_record_of}
use Rattle.sheet_limits.proofs.Bindings.{same_first_binding}
use Rattle.sheet_limits.proofs.Shape.{same_cells_bound}

module _ {s s' : List ℕ} (h : ButLimit s s') where
  record_by_at : (k : ℕ) (a : ℤ) → record_by s (suc k) a ≡ record_by s' (suc k) a
  unfolding record_by
  record_by_at k (pos n) = λ q. same_record_of h k q n
  record_by_at k (negsuc n) = refl

  -- of any section but the head
  pub same_record_by : (k : ℕ) → record_by s (suc k) ≡ record_by s' (suc k)
  same_record_by k = λ q a. record_by_at k a q

  pub same_names_by : record_by s names ≡ record_by s' names
  same_names_by = same_record_by 2

  in_data_type_at : (a : DataType) → in_data_type s a ≡ in_data_type s' a
  unfolding in_data_type
  in_data_type_at bool = λ q z. is_below z 2
  in_data_type_at int = λ q z. fits32 z
  in_data_type_at component = λ q z. is_below z (same_components_of h q)
  in_data_type_at port = λ q z. is_below z (same_ports_of h q)
  in_data_type_at (enumerated_type k) = λ q z. is_below z (same_members_of h q k)
  in_data_type_at no_data = λ q z. false

  pub same_in_data_type : in_data_type s ≡ in_data_type s'
  same_in_data_type = λ q a. in_data_type_at a q

  pub same_in_type : in_type s ≡ in_type s'
  unfolding in_type
  same_in_type = λ q t z. same_in_data_type q (data_type_of t) z

  default_in_at : (a : DataType) → default_in s a ≡ default_in s' a
  unfolding default_in
  default_in_at bool = refl
  default_in_at int = refl
  default_in_at component = refl
  default_in_at port = refl
  default_in_at (enumerated_type k) = λ q. pos (number_or0 (same_enumerated_types h q k) default_member)
  default_in_at no_data = refl

  pub same_default_in : default_in s ≡ default_in s'
  same_default_in = λ q a. default_in_at a q

  pub same_default_of : default_of s ≡ default_of s'
  unfolding default_of
  same_default_of = λ q t. same_default_in q (data_type_of t)

  pub same_has_default : has_default s ≡ has_default s'
  unfolding has_default
  same_has_default = λ q d. same_declared_so h q d (λ t. elim (is_clock t) [ true ↦ true | false ↦ same_in_type q t (same_default_of q t) ])

  pub same_is_bound : is_bound s ≡ is_bound s'
  unfolding is_bound
  same_is_bound = λ q e. leb (same_externals_of h q) e and ltb e (same_components_of h q)

  pub same_binding_at : binding_at s ≡ binding_at s'
  unfolding binding_at
  same_binding_at = λ q e. same_first_binding h q (e - same_externals_of h q)

  pub same_binding_of : binding_of s ≡ binding_of s'
  unfolding binding_of
  same_binding_of = λ q e. elim (same_is_bound q e) [ true ↦ same_bindings h q (same_binding_at q e) | false ↦ None ]

  pub same_chart_of : chart_of s ≡ chart_of s'
  unfolding chart_of
  same_chart_of = λ q e. elim (same_binding_of q e) [ Some b ↦ same_charts h q (bound_chart b) | None ↦ None ]

  pub same_first_cell : first_cell s ≡ first_cell s'
  unfolding first_cell
  same_first_cell = λ q e. sum_below (e - same_externals_of h q) (same_cells_bound h q)
