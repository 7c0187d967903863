-- The static rules.
use Prim.Native.Nat.{ℕ, ◌+◌, zero, suc}
use mathlib.Core.List.{List, [], ◌∷◌}
use mathlib.Core.Bool.{true, false, not}
use mathlib.Core.Path.{◌≡◌, refl, ◌∙◌}
use lib.Dec.{leb, eqb}
use Rattle.sheet.specs.All.{◌and◌, all_below}
use Rattle.sheet.specs.Table.{up_to, look_up}
use Rattle.sheet.specs.Names.{enumerated_types, declarations, names, charts, bindings, declared_type, declared_index, data_of, external, internal, chart_parameters, chart_bodies, role, initial, panic, external_reaction, reaction_name, body_parameters, body_locals, root, is_clock, head}
use Rattle.sheet.specs.Sheet.{record_of}
use Rattle.sheet_rules.specs.Fields.{holds, count_below}
use Rattle.sheet_rules.specs.Indices.{is_plain}
use Rattle.sheet_rules.specs.Bindings.{constant_of}
use Rattle.sheet_rules.specs.Shape.{is_reaction}
use Rattle.sheet_rules.specs.Types.{is_statement, literal_type}
use Rattle.sheet_rules.specs.Static.{declaration_static, plain_data, name_static, same_types, reaction_static, role_static, body_static, body_of, has_role, bodies_with, same_reaction, no_twin, bodies_static, chart_static, constant_static, constants_static, binding_static, bindings_static, static_table, record_static, each_static, section_static, static}
use Rattle.sheet_limits.specs.ButLimit.{ButLimit}
use Rattle.sheet_limits.proofs.Fields.{same_type_at}
use Rattle.sheet_limits.proofs.Indices.{same_index_at, same_index_of}
use Rattle.sheet_limits.proofs.Bindings.{same_chart_bound, same_first_binding, same_elements_bound_in, same_constant_binding}
use Rattle.sheet_limits.proofs.Records.{same_bodies, same_count_of, same_head_test, same_nodes, same_record_of}
use Rattle.sheet_limits.proofs.Types.{same_has_class, same_name_range, same_type_of}

module _ {s s' : List ℕ} (h : ButLimit s s') where
  pub same_declaration_static : declaration_static s ≡ declaration_static s'
  unfolding declaration_static
  same_declaration_static = λ q r. not (is_clock (declared_type r) and not (is_plain (same_index_of h q (declared_index r))))

  pub same_plain_data : plain_data s ≡ plain_data s'
  unfolding plain_data
  same_plain_data = λ q g. all_below g.count (λ j. not (is_clock (same_type_at h q (g.first + j))) and is_plain (same_index_at h q (g.first + j)))

  pub same_name_static : name_static s ≡ name_static s'
  unfolding name_static
  same_name_static = λ q r. same_plain_data q (data_of r)

  pub same_same_types : same_types s ≡ same_types s'
  unfolding same_types
  same_same_types = λ q g g'. eqb g.count g'.count and all_below g.count (λ j. eqb (same_type_at h q (g.first + j)) (same_type_at h q (g'.first + j)))

  pub same_reaction_static : reaction_static s ≡ reaction_static s'
  unfolding reaction_static
  same_reaction_static = λ q b. same_has_class h q (reaction_name b) (elim (eqb (role b) external_reaction) [ true ↦ external | false ↦ internal ]) and same_same_types q (body_parameters b) (same_name_range h q (reaction_name b))

  pub same_role_static : role_static s ≡ role_static s'
  unfolding role_static
  same_role_static = λ q b. elim (is_reaction (role b)) [ true ↦ same_reaction_static q b | false ↦ elim (leb (role b) panic) [ true ↦ eqb (body_parameters b).count 0 | false ↦ true ] ]

  pub same_body_static : body_static s ≡ body_static s'
  unfolding body_static
  same_body_static = λ q c b. same_plain_data q (body_parameters b) and same_plain_data q (body_locals b) and same_role_static q b and is_statement (same_type_of h q c b (root b))

  pub same_body_of : body_of s ≡ body_of s'
  same_body_of = λ q c j. same_bodies h q ((chart_bodies c).first + j)

  pub same_has_role : has_role s ≡ has_role s'
  unfolding has_role
  same_has_role = λ q i k. holds (same_bodies h q i) (λ b. eqb (role b) k)

  pub same_bodies_with : bodies_with s ≡ bodies_with s'
  unfolding bodies_with
  same_bodies_with = λ q c k. count_below (chart_bodies c).count (λ j. same_has_role q ((chart_bodies c).first + j) k)

  pub same_no_twin : no_twin s ≡ no_twin s'
  unfolding no_twin
  same_no_twin = λ q c j b. all_below j (λ i. holds (same_body_of q c i) (λ a. not (same_reaction a b)))

  pub same_bodies_static : bodies_static s ≡ bodies_static s'
  unfolding bodies_static
  same_bodies_static = λ q c. all_below (chart_bodies c).count (λ j. holds (same_body_of q c j) (λ b. same_no_twin q c j b and same_body_static q c b))

  pub same_chart_static : chart_static s ≡ chart_static s'
  unfolding chart_static
  same_chart_static = λ q c.
      same_plain_data q (chart_parameters c)
      and eqb (same_bodies_with q c initial) 1
      and eqb (same_bodies_with q c panic) 1
      and same_bodies_static q c

  pub same_constant_static : constant_static s ≡ constant_static s'
  unfolding constant_static
  same_constant_static = λ q n t. holds (same_nodes h q n) (λ r. eqb (literal_type r) t)

  pub same_constants_static : constants_static s ≡ constants_static s'
  unfolding constants_static
  same_constants_static = λ q k c. all_below (chart_parameters c).count (λ j. holds (same_constant_binding h q k j) (λ b. same_constant_static q (constant_of b j) (same_type_at h q ((chart_parameters c).first + j))))

  pub same_binding_static : binding_static s ≡ binding_static s'
  unfolding binding_static
  same_binding_static = λ q k. holds (same_chart_bound h q k) (same_constants_static q k)

  pub same_bindings_static : bindings_static s ≡ bindings_static s'
  unfolding bindings_static
  same_bindings_static = λ q. all_below (same_elements_bound_in h q) (λ i. same_binding_static q (same_first_binding h q i))

  pub same_static_table : static_table s ≡ static_table s'
  same_static_table = λ q r.
      up_to enumerated_types true
      ∷ up_to declarations (same_declaration_static q r)
      ∷ up_to names (same_name_static q r)
      ∷ up_to charts (same_chart_static q r)
      ∷ []

  pub same_record_static : record_static s ≡ record_static s'
  unfolding record_static
  same_record_static = λ q k r. look_up (same_static_table q r) true k

  -- there is no static rule for a head
  each_static_at : (k : ℕ) → each_static s k ≡ each_static s' k
  unfolding each_static record_static look_up
  each_static_at zero = λ q. all_below (same_count_of h q head) (λ i. ((λ q. holds (record_of s head i) (same_record_static q head)) ∙ same_head_test h (record_static s' head) (λ r. refl) i) q)
  each_static_at (suc k) = λ q. all_below (same_count_of h q (suc k)) (λ i. holds (same_record_of h k q i) (same_record_static q (suc k)))

  pub same_each_static : each_static s ≡ each_static s'
  same_each_static = λ q k. each_static_at k q

  pub same_section_static : section_static s ≡ section_static s'
  unfolding section_static
  same_section_static = λ q k. elim (eqb k bindings) [ true ↦ same_bindings_static q | false ↦ same_each_static q k ]

  pub same_static : static s ≡ static s'
  unfolding static
  same_static = λ q. all_below 8 (same_section_static q)
