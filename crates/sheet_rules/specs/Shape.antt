-- The shape of a sheet, a rule for each sentence of the paper's "The sheet". Failing any gives 1.
use Rattle.std.specs.Prelude.{ℕ, zero, suc, ◌+◌, ◌-◌, List, [], ◌∷◌, Bool, true, false, ltb, leb, eqb}
use Rattle.sheet.specs.declared.Record.{Record}
use Rattle.sheet.specs.All.{◌and◌, all_below}
use Rattle.sheet.specs.Table.{Line, up_to, look_up}
use Rattle.sheet.specs.Names
use Rattle.sheet.specs.Names.{head, enumerated_types, declarations, names, charts, bodies, nodes, bindings, components, externals, ports, size, default_member, declared_type, declared_index, data_of, class, chart_parameters, chart_variables, chart_bodies, role, external_reaction, internal_reaction, procedure, reaction_port, reaction_name, body_parameters, body_locals, root, bound_chart, operator, is_literal}
use Rattle.sheet.specs.Sheet.{count_of, record_of}
use Rattle.sheet_rules.specs.Fields.{zero_from, holds, number_or0, sum_below, components_of, externals_of, ports_of, members_of, elements_of, in_section}
use Rattle.sheet_rules.specs.Forms.{Form, literal, read, unary, binary, clock, read_element, skip, assign, external_send, internal_send, arm, clock_act, call, choice, loop, sequence, assign_element, unknown, form_of, Literal, bool, int, member, component, port, self, literal_of, call_data, operands_of, operand_count, operand_at}
use Rattle.sheet_rules.specs.Indices.{Index, plain, over, no_index, index_of, cells_before}
use Rattle.sheet_rules.specs.Bindings.{constants_in_record, chart_bound, first_binding, elements_bound_in, constant_binding, constant_of}

-- ---- limits, each in the paper's words where it is asked for

abbrev pub most_components : ℕ
most_components = 64

abbrev pub most_ports : ℕ
most_ports = 64

abbrev pub most_members : ℕ
most_members = 256

abbrev pub most_data : ℕ
most_data = 4

abbrev pub most_parameters : ℕ
most_parameters = 14

abbrev pub most_variables : ℕ
most_variables = 32

abbrev pub most_body_parameters : ℕ
most_body_parameters = 4

abbrev pub most_body_variables : ℕ
most_body_variables = 16

abbrev pub most_levels : ℕ
most_levels = 64

abbrev pub most_cells : ℕ
most_cells = 512

-- a number of a record of section k
abbrev exists : List ℕ → ℕ → ℕ → Bool
exists s k n = ltb n (count_of s k)

-- ---- 0 Head: components (up to 64), of them external (2 to f0), ports (2 to 64), step limit

unfoldable pub head_shape : Record → Bool
head_shape r = leb (components r) most_components and leb 2 (externals r) and leb (externals r) (components r) and leb 2 (ports r) and leb (ports r) most_ports and zero_from 4 r

-- ---- 1 Enumerated types: size 1 to 256, default member

unfoldable pub enumerated_shape : Record → Bool
enumerated_shape r = leb 1 (size r) and leb (size r) most_members and ltb (default_member r) (size r) and zero_from 2 r

-- ---- 2 Declarations: a type, an index. There is no type 7; 8 + k is enumerated type k

unfoldable pub type_exists : List ℕ → ℕ → Bool
type_exists s t = elim (leb t 6) [ true ↦ true | false ↦ leb 8 t and exists s enumerated_types (t - 8) ]

-- "Another f1 is 1": an array's index is of a type that is there
unfoldable pub index_exists : List ℕ → Index → Bool
index_exists s plain = true
index_exists s (over t n) = type_exists s t
index_exists s no_index = false

unfoldable pub declaration_shape : List ℕ → Record → Bool
declaration_shape s r = type_exists s (declared_type r) and index_exists s (index_of s (declared_index r)) and zero_from 2 r

-- ---- 3 Telegram names: data (up to 4), class

unfoldable pub name_shape : List ℕ → Record → Bool
name_shape s r = in_section s declarations (data_of r) and leb (data_of r).count most_data and leb (class r) 1 and zero_from 3 r

-- ---- 4 Charts: parameters (up to 14), variables (up to 32), bodies

-- "Body ranges follow each other and cover section 5."
unfoldable pub bodies_up_to : List ℕ → ℕ → ℕ
bodies_up_to s zero = 0
bodies_up_to s (suc k) = number_or0 (record_of s charts k) (λ c. (chart_bodies c).first + (chart_bodies c).count)

unfoldable pub chart_shape : List ℕ → ℕ → Record → Bool
chart_shape s k r =
    in_section s declarations (chart_parameters r)
    and leb (chart_parameters r).count most_parameters
    and in_section s declarations (chart_variables r)
    and leb (chart_variables r).count most_variables
    and eqb (chart_bodies r).first (bodies_up_to s k)
    and zero_from 6 r

unfoldable pub bodies_covered : List ℕ → Bool
bodies_covered s = eqb (bodies_up_to s (count_of s charts)) (count_of s bodies)

-- ---- 5 Bodies: role, port (role 2), name (roles 2, 3), parameters (up to 4), locals, root node. Parameters and locals together at most 16

unfoldable pub is_reaction : ℕ → Bool
is_reaction role = leb external_reaction role and leb role internal_reaction

unfoldable pub reaction_shape : List ℕ → Record → Bool
reaction_shape s r =
    elim (eqb (role r) external_reaction) [ true ↦ ltb (reaction_port r) (ports_of s) | false ↦ eqb (reaction_port r) 0 ]
    and elim (is_reaction (role r)) [ true ↦ exists s names (reaction_name r) | false ↦ eqb (reaction_name r) 0 ]

unfoldable pub body_shape : List ℕ → Record → Bool
body_shape s r =
    leb (role r) procedure
    and reaction_shape s r
    and in_section s declarations (body_parameters r)
    and leb (body_parameters r).count most_body_parameters
    and in_section s declarations (body_locals r)
    and leb ((body_parameters r).count + (body_locals r).count) most_body_variables
    and exists s nodes (root r)

-- ---- 6 Nodes

-- 1 Bool (f1: 0 or 1); 2 Int (f1 low, f2 high); 3 member (f1 type, f2 member); 4 component, 5 port (f1); 6 self
unfoldable pub literal_fields : List ℕ → Record → Literal → Bool
literal_fields s r bool = leb r.f1 1 and zero_from 2 r
literal_fields s r int = zero_from 3 r
literal_fields s r member = ltb r.f2 (members_of s r.f1) and zero_from 3 r
literal_fields s r component = ltb r.f1 (components_of s) and zero_from 2 r
literal_fields s r port = ltb r.f1 (ports_of s) and zero_from 2 r
literal_fields s r self = zero_from 1 r

unfoldable pub literal_shape : List ℕ → Record → Bool
literal_shape s r = literal_fields s r (literal_of (operator r))

-- how many variables there are to read or assign in body b of chart c: place 0 chart parameter, 1 chart variable, 2 body parameter or local
unfoldable pub variables_at : Record → Record → ℕ → ℕ
variables_at c b place =
    elim (eqb place Names.chart_parameter) [
      | true ↦ (chart_parameters c).count
      | false ↦ elim (eqb place Names.chart_variable) [
        | true ↦ (chart_variables c).count
        | false ↦ elim (eqb place Names.body_variable) [ true ↦ (body_parameters b).count + (body_locals b).count | false ↦ 0 ]
      ]
    ]

-- the name of a send or arming exists, and data fields past the name's are 0
unfoldable pub send_shape : List ℕ → Record → Bool
send_shape s r = holds (record_of s names r.f3) (λ n. zero_from (4 + (data_of n).count) r)

-- everything that a field numbers exists, and fields not named are 0
module _ (s : List ℕ) (c b : Record) where
  unfoldable pub fields_shape : Record → Form → Bool
  fields_shape r literal = literal_shape s r
  fields_shape r read = ltb r.f2 (variables_at c b r.f1) and zero_from 3 r
  fields_shape r unary = zero_from 2 r
  fields_shape r binary = zero_from 3 r
  fields_shape r clock = ltb r.f1 (chart_variables c).count and zero_from 2 r
  fields_shape r read_element = ltb r.f1 (chart_variables c).count and zero_from 3 r
  fields_shape r skip = zero_from 1 r
  fields_shape r assign = ltb r.f2 (variables_at c b r.f1) and zero_from 4 r
  fields_shape r external_send = send_shape s r
  fields_shape r internal_send = eqb r.f1 0 and eqb r.f2 0 and send_shape s r
  fields_shape r arm = ltb r.f1 (chart_variables c).count and send_shape s r
  fields_shape r clock_act = ltb r.f1 (chart_variables c).count and zero_from 2 r
  fields_shape r call = ltb r.f1 (chart_bodies c).count and eqb r.f2 0 and eqb r.f3 0 and zero_from (4 + call_data s c r) r
  fields_shape r choice = zero_from 4 r
  fields_shape r loop = zero_from 3 r
  fields_shape r sequence = zero_from 3 r
  fields_shape r assign_element = ltb r.f1 (chart_variables c).count and zero_from 4 r
  fields_shape r unknown = false

  -- "Operand nodes have lower numbers." "Depth at most 64, a leaf being 1": the tree of node n has at most k levels
  unfoldable pub tree_shape : ℕ → ℕ → Bool
  tree_shape zero n = false
  tree_shape (suc k) n =
      holds (record_of s nodes n) (λ r. fields_shape r (form_of (operator r)) and all_below (operand_count (operands_of s c r)) (λ j. ltb (operand_at r (operands_of s c r) j) n and tree_shape k (operand_at r (operands_of s c r) j)))

-- the trees of the bodies of chart c
unfoldable pub trees_shape : List ℕ → Record → Bool
trees_shape s c = all_below (chart_bodies c).count (λ j. holds (record_of s bodies ((chart_bodies c).first + j)) (λ b. tree_shape s c b most_levels (root b)))

-- ---- 7 Bindings: chart, one literal node per parameter, in one record or two for each bound element

unfoldable pub constant_shape : List ℕ → ℕ → Bool
constant_shape s n = holds (record_of s nodes n) (λ r. is_literal (operator r) and literal_shape s r)

-- f0 of a second record; no chart has that number
abbrev pub second_mark : ℕ
second_mark = 65535

-- record k is a second one, with n constants
unfoldable pub second_shape : List ℕ → ℕ → ℕ → Bool
second_shape s k n = holds (record_of s bindings k) (λ r. eqb (bound_chart r) second_mark and zero_from (1 + n) r)

-- the constants of the element bound to chart c whose first record is k
unfoldable pub constants_shape : List ℕ → ℕ → Record → Bool
constants_shape s k c = all_below (chart_parameters c).count (λ j. holds (constant_binding s k j) (λ b. constant_shape s (constant_of b j)))

-- its records, the first one being r
unfoldable pub records_shape : List ℕ → ℕ → Record → Record → Bool
records_shape s k r c =
    constants_shape s k c
    and zero_from (1 + (chart_parameters c).count) r
    and elim (leb (chart_parameters c).count constants_in_record) [ true ↦ true | false ↦ second_shape s (k + 1) ((chart_parameters c).count - constants_in_record) ]

-- the records of the element whose first one is k
unfoldable pub binding_shape : List ℕ → ℕ → Bool
binding_shape s k = holds (record_of s bindings k) (λ r. holds (record_of s charts (bound_chart r)) (records_shape s k r))

unfoldable pub bindings_shape : List ℕ → Bool
bindings_shape s = all_below (elements_bound_in s) (λ i. binding_shape s (first_binding s i))

-- "The rest are bound elements": the section binds the components from f1 on. That it has "as many records as its charts need" follows from the whole shape (`as_many_records`)
unfoldable pub elements_bound : List ℕ → Bool
elements_bound s = eqb (externals_of s + elements_bound_in s) (components_of s)

-- "Elements have at most 512 variables together", and "the 512 counts cells": those of element i, counted from the first bound one
unfoldable pub cells_bound : List ℕ → ℕ → ℕ
cells_bound s i = number_or0 (chart_bound s (first_binding s i)) (λ c. cells_before s c (chart_variables c).count)

unfoldable pub cells_of : List ℕ → ℕ
cells_of s = sum_below (elements_of s) (cells_bound s)

-- ---- every record of every section. Nodes are judged in the tree that they stand in, bindings element by element

abbrev pub shape_table : List ℕ → ℕ → Record → List (Line Bool)
shape_table s i r =
    up_to head (head_shape r)
    ∷ up_to enumerated_types (enumerated_shape r)
    ∷ up_to declarations (declaration_shape s r)
    ∷ up_to names (name_shape s r)
    ∷ up_to charts (chart_shape s i r)
    ∷ up_to bodies (body_shape s r)
    ∷ []

-- record i of section k
unfoldable pub record_shape : List ℕ → ℕ → ℕ → Record → Bool
record_shape s k i r = look_up (shape_table s i r) true k

unfoldable pub each_shape : List ℕ → ℕ → Bool
each_shape s k = all_below (count_of s k) (λ i. holds (record_of s k i) (record_shape s k i))

unfoldable pub section_shape : List ℕ → ℕ → Bool
section_shape s k = elim (eqb k bindings) [ true ↦ bindings_shape s | false ↦ each_shape s k ]
