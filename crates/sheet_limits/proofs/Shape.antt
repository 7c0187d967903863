-- The shape, sentence by sentence.
use Prim.Native.Nat.{ℕ, zero, suc, ◌+◌, ◌-◌}
use mathlib.Core.List.{List, [], ◌∷◌}
use mathlib.Core.Bool.{true, false}
use mathlib.Core.Path.{◌≡◌, refl, ◌∙◌}
use lib.Dec.{ltb, leb, eqb}
use Rattle.sheet.specs.declared.Record.{Record}
use Rattle.sheet.specs.All.{◌and◌, all_below}
use Rattle.sheet.specs.Table.{up_to, look_up}
use Rattle.sheet.specs.Names.{head, enumerated_types, declarations, names, charts, bodies, nodes, bindings, declared_type, declared_index, data_of, class, chart_parameters, chart_variables, chart_bodies, role, external_reaction, procedure, reaction_port, reaction_name, body_parameters, body_locals, root, bound_chart, operator, is_literal}
use Rattle.sheet.specs.Sheet.{record_of}
use Rattle.sheet_rules.specs.Fields.{field_of, zero_from, holds, number_or0, sum_below}
use Rattle.sheet_rules.specs.Forms.{Form, literal, read, unary, binary, clock, read_element, skip, assign, external_send, internal_send, arm, clock_act, call, choice, loop, sequence, assign_element, unknown, form_of, Literal, bool, int, member, component, port, self, literal_of, operand_count, operand_at}
use Rattle.sheet_rules.specs.Indices.{Index, plain, over, no_index}
use Rattle.sheet_rules.specs.Bindings.{constants_in_record, constant_of}
use Rattle.sheet_rules.specs.Shape.{head_shape, enumerated_shape, type_exists, index_exists, declaration_shape, name_shape, bodies_up_to, chart_shape, bodies_covered, is_reaction, reaction_shape, body_shape, literal_fields, literal_shape, send_shape, fields_shape, tree_shape, trees_shape, constant_shape, second_mark, second_shape, constants_shape, records_shape, binding_shape, bindings_shape, elements_bound, cells_bound, cells_of, shape_table, record_shape, each_shape, section_shape}
use Rattle.sheet_limits.specs.ButLimit.{ButLimit}
use Rattle.sheet_limits.proofs.Fields.{same_components_of, same_elements_of, same_externals_of, same_in_section, same_members_of, same_ports_of}
use Rattle.sheet_limits.proofs.Forms.{same_call_data, same_operands_of}
use Rattle.sheet_limits.proofs.Indices.{same_cells_before, same_index_of}
use Rattle.sheet_limits.proofs.Bindings.{same_chart_bound, same_first_binding, same_elements_bound_in, same_constant_binding}
use Rattle.sheet_limits.proofs.Records.{same_bindings, same_bodies, same_charts, same_count_of, same_head_test, same_names, same_nodes, same_record_of}

module _ {s s' : List ℕ} (h : ButLimit s s') where
  pub same_type_exists : type_exists s ≡ type_exists s'
  unfolding type_exists
  same_type_exists = λ q t. elim (leb t 6) [ true ↦ true | false ↦ leb 8 t and ltb (t - 8) (same_count_of h q enumerated_types) ]

  index_exists_at : (a : Index) → index_exists s a ≡ index_exists s' a
  unfolding index_exists
  index_exists_at plain = refl
  index_exists_at (over t n) = λ q. same_type_exists q t
  index_exists_at no_index = refl

  pub same_index_exists : index_exists s ≡ index_exists s'
  same_index_exists = λ q a. index_exists_at a q

  pub same_declaration_shape : declaration_shape s ≡ declaration_shape s'
  unfolding declaration_shape
  same_declaration_shape = λ q r. same_type_exists q (declared_type r) and same_index_exists q (same_index_of h q (declared_index r)) and zero_from 2 r

  pub same_name_shape : name_shape s ≡ name_shape s'
  unfolding name_shape
  same_name_shape = λ q r. same_in_section h q declarations (data_of r) and leb (data_of r).count 4 and leb (class r) 1 and zero_from 3 r

  bodies_up_to_at : (a : ℕ) → bodies_up_to s a ≡ bodies_up_to s' a
  unfolding bodies_up_to
  bodies_up_to_at zero = refl
  bodies_up_to_at (suc k) = λ q. number_or0 (same_charts h q k) (λ c. (chart_bodies c).first + (chart_bodies c).count)

  pub same_bodies_up_to : bodies_up_to s ≡ bodies_up_to s'
  same_bodies_up_to = λ q a. bodies_up_to_at a q

  pub same_chart_shape : chart_shape s ≡ chart_shape s'
  unfolding chart_shape
  same_chart_shape = λ q k r.
      same_in_section h q declarations (chart_parameters r)
      and leb (chart_parameters r).count 14
      and same_in_section h q declarations (chart_variables r)
      and leb (chart_variables r).count 32
      and eqb (chart_bodies r).first (same_bodies_up_to q k)
      and zero_from 6 r

  pub same_bodies_covered : bodies_covered s ≡ bodies_covered s'
  unfolding bodies_covered
  same_bodies_covered = λ q. eqb (same_bodies_up_to q (same_count_of h q charts)) (same_count_of h q bodies)

  pub same_reaction_shape : reaction_shape s ≡ reaction_shape s'
  unfolding reaction_shape
  same_reaction_shape = λ q r.
      elim (eqb (role r) external_reaction) [ true ↦ ltb (reaction_port r) (same_ports_of h q) | false ↦ eqb (reaction_port r) 0 ]
      and elim (is_reaction (role r)) [ true ↦ ltb (reaction_name r) (same_count_of h q names) | false ↦ eqb (reaction_name r) 0 ]

  pub same_body_shape : body_shape s ≡ body_shape s'
  unfolding body_shape
  same_body_shape = λ q r.
      leb (role r) procedure
      and same_reaction_shape q r
      and same_in_section h q declarations (body_parameters r)
      and leb (body_parameters r).count 4
      and same_in_section h q declarations (body_locals r)
      and leb ((body_parameters r).count + (body_locals r).count) 16
      and ltb (root r) (same_count_of h q nodes)

  literal_fields_at : (r : Record) (a : Literal) → literal_fields s r a ≡ literal_fields s' r a
  unfolding literal_fields
  literal_fields_at r bool = refl
  literal_fields_at r int = refl
  literal_fields_at r member = λ q. ltb r.f2 (same_members_of h q r.f1) and zero_from 3 r
  literal_fields_at r component = λ q. ltb r.f1 (same_components_of h q) and zero_from 2 r
  literal_fields_at r port = λ q. ltb r.f1 (same_ports_of h q) and zero_from 2 r
  literal_fields_at r self = refl

  pub same_literal_fields : literal_fields s ≡ literal_fields s'
  same_literal_fields = λ q r a. literal_fields_at r a q

  pub same_literal_shape : literal_shape s ≡ literal_shape s'
  unfolding literal_shape
  same_literal_shape = λ q r. same_literal_fields q r (literal_of (operator r))

  pub same_send_shape : send_shape s ≡ send_shape s'
  unfolding send_shape
  same_send_shape = λ q r. holds (same_names h q r.f3) (λ n. zero_from (4 + (data_of n).count) r)

  fields_shape_at : (c b r : Record) (a : Form) → fields_shape s c b r a ≡ fields_shape s' c b r a
  unfolding fields_shape
  fields_shape_at c b r literal = λ q. same_literal_shape q r
  fields_shape_at c b r read = refl
  fields_shape_at c b r unary = refl
  fields_shape_at c b r binary = refl
  fields_shape_at c b r clock = refl
  fields_shape_at c b r read_element = refl
  fields_shape_at c b r skip = refl
  fields_shape_at c b r assign = refl
  fields_shape_at c b r external_send = λ q. same_send_shape q r
  fields_shape_at c b r internal_send = λ q. eqb r.f1 0 and eqb r.f2 0 and same_send_shape q r
  fields_shape_at c b r arm = λ q. ltb r.f1 (chart_variables c).count and same_send_shape q r
  fields_shape_at c b r clock_act = refl
  fields_shape_at c b r call = λ q. ltb r.f1 (chart_bodies c).count and eqb r.f2 0 and eqb r.f3 0 and zero_from (4 + same_call_data h q c r) r
  fields_shape_at c b r choice = refl
  fields_shape_at c b r loop = refl
  fields_shape_at c b r sequence = refl
  fields_shape_at c b r assign_element = refl
  fields_shape_at c b r unknown = refl

  pub same_fields_shape : fields_shape s ≡ fields_shape s'
  same_fields_shape = λ q c b r a. fields_shape_at c b r a q

  tree_shape_at : (c b : Record) (a : ℕ) → tree_shape s c b a ≡ tree_shape s' c b a
  unfolding tree_shape
  tree_shape_at c b zero = λ q n. false
  tree_shape_at c b (suc k) = λ q n.
      holds (same_nodes h q n) (λ r. same_fields_shape q c b r (form_of (operator r)) and all_below (operand_count (same_operands_of h q c r)) (λ j. ltb (operand_at r (same_operands_of h q c r) j) n and tree_shape_at c b k q (operand_at r (same_operands_of h q c r) j)))

  pub same_tree_shape : tree_shape s ≡ tree_shape s'
  same_tree_shape = λ q c b a. tree_shape_at c b a q

  pub same_trees_shape : trees_shape s ≡ trees_shape s'
  unfolding trees_shape
  same_trees_shape = λ q c. all_below (chart_bodies c).count (λ j. holds (same_bodies h q ((chart_bodies c).first + j)) (λ b. same_tree_shape q c b 64 (root b)))

  pub same_constant_shape : constant_shape s ≡ constant_shape s'
  unfolding constant_shape
  same_constant_shape = λ q n. holds (same_nodes h q n) (λ r. is_literal (operator r) and same_literal_shape q r)

  pub same_second_shape : second_shape s ≡ second_shape s'
  unfolding second_shape
  same_second_shape = λ q k n. holds (same_bindings h q k) (λ r. eqb (bound_chart r) second_mark and zero_from (1 + n) r)

  pub same_constants_shape : constants_shape s ≡ constants_shape s'
  unfolding constants_shape
  same_constants_shape = λ q k c. all_below (chart_parameters c).count (λ j. holds (same_constant_binding h q k j) (λ b. same_constant_shape q (constant_of b j)))

  pub same_records_shape : records_shape s ≡ records_shape s'
  unfolding records_shape
  same_records_shape = λ q k r c.
      same_constants_shape q k c
      and zero_from (1 + (chart_parameters c).count) r
      and elim (leb (chart_parameters c).count constants_in_record) [ true ↦ true | false ↦ same_second_shape q (k + 1) ((chart_parameters c).count - constants_in_record) ]

  pub same_binding_shape : binding_shape s ≡ binding_shape s'
  unfolding binding_shape
  same_binding_shape = λ q k. holds (same_bindings h q k) (λ r. holds (same_charts h q (bound_chart r)) (same_records_shape q k r))

  pub same_bindings_shape : bindings_shape s ≡ bindings_shape s'
  unfolding bindings_shape
  same_bindings_shape = λ q. all_below (same_elements_bound_in h q) (λ i. same_binding_shape q (same_first_binding h q i))

  pub same_elements_bound : elements_bound s ≡ elements_bound s'
  unfolding elements_bound
  same_elements_bound = λ q. eqb (same_externals_of h q + same_elements_bound_in h q) (same_components_of h q)

  pub same_cells_bound : cells_bound s ≡ cells_bound s'
  unfolding cells_bound
  same_cells_bound = λ q i. number_or0 (same_chart_bound h q (same_first_binding h q i)) (λ c. same_cells_before h q c (chart_variables c).count)

  pub same_cells_of : cells_of s ≡ cells_of s'
  unfolding cells_of
  same_cells_of = λ q. sum_below (same_elements_of h q) (same_cells_bound q)

  pub same_shape_table : shape_table s ≡ shape_table s'
  same_shape_table = λ q i r.
      up_to head (head_shape r)
      ∷ up_to enumerated_types (enumerated_shape r)
      ∷ up_to declarations (same_declaration_shape q r)
      ∷ up_to names (same_name_shape q r)
      ∷ up_to charts (same_chart_shape q i r)
      ∷ up_to bodies (same_body_shape q r)
      ∷ []

  pub same_record_shape : record_shape s ≡ record_shape s'
  unfolding record_shape
  same_record_shape = λ q k i r. look_up (same_shape_table q i r) true k

  -- a head's shape has no rule for its limit
  each_shape_at : (k : ℕ) → each_shape s k ≡ each_shape s' k
  unfolding each_shape record_shape look_up head_shape zero_from field_of all_below
  each_shape_at zero = λ q. all_below (same_count_of h q head) (λ i. ((λ q. holds (record_of s head i) (same_record_shape q head i)) ∙ same_head_test h (record_shape s' head i) (λ r. refl) i) q)
  each_shape_at (suc k) = λ q. all_below (same_count_of h q (suc k)) (λ i. holds (same_record_of h k q i) (same_record_shape q (suc k) i))

  pub same_each_shape : each_shape s ≡ each_shape s'
  same_each_shape = λ q k. each_shape_at k q

  pub same_section_shape : section_shape s ≡ section_shape s'
  unfolding section_shape
  same_section_shape = λ q k. elim (eqb k bindings) [ true ↦ same_bindings_shape q | false ↦ same_each_shape q k ]
