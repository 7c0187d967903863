-- What samples are made of, sheets by their records, with every definition open; and samples by which the edits of the definitions are refused, on sheets that have no more than the sample needs. What check gives to whole sheets is in `sheet_samples` and, for the paper's starred samples, in `machine_samples`.
use Prim.Native.Nat.{ℕ, zero, suc, ◌+◌, ◌*◌, ◌/◌, ◌%◌}
use mathlib.Core.List.{List, [], ◌∷◌, ◌++◌}
use mathlib.Core.Bool.{false}
use mathlib.Core.Path.{◌≡◌, refl}
use lib.ListN.{length}
use Rattle.sheet.specs.All.{◌and◌, all_below}
use Rattle.sheet.specs.Table.{look_up}
use Rattle.sheet.specs.Names.{is_clock, is_literal}
use Rattle.sheet.specs.declared.Record.{Record}
use Rattle.sheet.specs.Sheet.{start_of, pair_right, directory_right, count_of, record_at, record_of}
use Rattle.sheet_rules.specs.declared.Typed.TheVariants.{Expression, Statement, Wrong}
use Rattle.sheet_rules.specs.Fields.{field_of, zero_from, holds, number_or0, sum_below, count_below, components_of, externals_of, ports_of, members_of, elements_of, declared_so, type_at, in_section}
use Rattle.sheet_rules.specs.Forms.{form_of, literal_of, less, plus, modulo, binary_of, name_data, called_body, call_data, operands_in, operands_of, operand_at}
use Rattle.sheet_rules.specs.DataTypes.{enumerated_type, no_data, data_type_of}
use Rattle.sheet_rules.specs.Indices.{index_of, index_at, is_plain, cells_by, cells_taken, cells_before}
use Rattle.sheet_rules.specs.Bindings.{records_for, chart_bound, behind, first_binding, elements_bound_in, constant_record, constant_field}
use Rattle.sheet_rules.specs.Shape.{head_shape, enumerated_shape, type_exists, index_exists, declaration_shape, name_shape, bodies_up_to, chart_shape, bodies_covered, is_reaction, reaction_shape, body_shape, literal_fields, literal_shape, variables_at, send_shape, fields_shape, tree_shape, trees_shape, constant_shape, second_shape, constants_shape, records_shape, binding_shape, bindings_shape, elements_bound, cells_bound, cells_of, record_shape, each_shape, section_shape}
use Rattle.sheet_rules.specs.Uses.{lower_only, stands_step, stands_f, stands_in, over_bodies, over_charts, stands_in_bodies, home_below, home_of, chart_or, home_chart, operand_fields, operand_uses, root_uses, constant_uses, uses_of, used_once, mark_of, bodies_holding, calls_in_one_body, gone_over}
use Rattle.sheet_rules.specs.Types.{given, is_of, is_statement, same_type, written_type, literal_type, variable_at, of_ints, combined_type, binary_type, has_class, has_reaction, internal_name, name_range, parameters_of, clock_of, data_match, lower_type, read_type, not_type, clock_type, assign_type, indexed_by, read_element_type, assign_element_type, external_type, internal_type, arm_type, clock_act_type, call_type, choice_type, loop_type, sequence_type, type_in, type_step, type_f, type_of}
use Rattle.sheet_rules.specs.Static.{declaration_static, plain_data, name_static, same_types, reaction_static, role_static, body_static, has_role, bodies_with, same_reaction, no_twin, bodies_static, chart_static, constant_static, constants_static, binding_static, bindings_static, record_static, each_static, section_static, static}
use Rattle.sheet_rules.specs.Check.{nodes_shape, sections_shape, shape_with, shape, otherwise_in_shape, check_of, check_number}

-- ---- a sheet from its eight sections, each the fields of its records

bytes_of : List ℕ → List ℕ
bytes_of [] = []
bytes_of (w ∷ ws) = w % 256 ∷ w / 256 ∷ bytes_of ws

directory_for : ℕ → List (List ℕ) → List ℕ
directory_for at [] = []
directory_for at (s ∷ ss) = at ∷ 2 * length s ∷ directory_for (at + 2 * length s) ss

fields_of : List (List ℕ) → List ℕ
fields_of [] = []
fields_of (s ∷ ss) = s ++ fields_of ss

unfoldable pub sheet_of : List (List ℕ) → List ℕ
unfolding bytes_of directory_for fields_of
sheet_of ss = bytes_of (directory_for 32 ss ++ fields_of ss)

-- a record by its first three or six fields; a body by role, name and root
unfoldable pub rec3 : ℕ → ℕ → ℕ → List ℕ
rec3 a b c = a ∷ b ∷ c ∷ 0 ∷ 0 ∷ 0 ∷ 0 ∷ 0 ∷ []

unfoldable pub rec6 : ℕ → ℕ → ℕ → ℕ → ℕ → ℕ → List ℕ
rec6 a b c d e f = a ∷ b ∷ c ∷ d ∷ e ∷ f ∷ 0 ∷ 0 ∷ []

unfoldable pub body : ℕ → ℕ → ℕ → List ℕ
body role name root = role ∷ 0 ∷ name ∷ 0 ∷ 0 ∷ 0 ∷ 0 ∷ root ∷ []

-- the number that check gives to a sheet, with every definition open
unfoldable pub check : List (List ℕ) → ℕ
unfolding ◌and◌ all_below is_clock is_literal start_of pair_right directory_right count_of record_at record_of field_of zero_from holds number_or0 sum_below count_below
    components_of externals_of ports_of members_of elements_of declared_so type_at in_section look_up form_of literal_of binary_of data_type_of index_of index_at is_plain
    cells_by cells_taken cells_before records_for chart_bound behind first_binding elements_bound_in constant_record constant_field name_data called_body call_data
    operands_in operands_of operand_at head_shape enumerated_shape type_exists index_exists declaration_shape name_shape bodies_up_to chart_shape bodies_covered is_reaction
    reaction_shape body_shape literal_fields literal_shape variables_at send_shape fields_shape tree_shape trees_shape constant_shape second_shape constants_shape
    records_shape binding_shape bindings_shape elements_bound cells_bound cells_of record_shape each_shape section_shape lower_only stands_step stands_f stands_in over_bodies
    over_charts stands_in_bodies home_below home_of chart_or home_chart operand_fields operand_uses root_uses constant_uses uses_of used_once mark_of bodies_holding
    calls_in_one_body gone_over given is_of is_statement same_type written_type literal_type variable_at of_ints combined_type binary_type has_class has_reaction internal_name
    name_range parameters_of clock_of data_match lower_type read_type not_type clock_type assign_type indexed_by read_element_type assign_element_type external_type
    internal_type arm_type clock_act_type call_type choice_type loop_type sequence_type type_in type_step type_f type_of declaration_static plain_data name_static same_types
    reaction_static role_static body_static has_role bodies_with same_reaction no_twin bodies_static chart_static constant_static constants_static binding_static
    bindings_static record_static each_static section_static static nodes_shape sections_shape shape_with shape otherwise_in_shape check_of bytes_of directory_for fields_of
    sheet_of rec3 rec6 body
check ss = check_number (check_of (sheet_of ss))

-- ---- two sheets of the starred samples

-- one bound element with a variable of type 0, Bool; its initial body assigns it the literal of an operator; with a step limit
unfoldable pub assigning : ℕ → ℕ → List (List ℕ)
assigning op limit =
    rec6 3 2 2 limit 0 0
    ∷ []
    ∷ rec3 0 0 0
    ∷ []
    ∷ rec6 0 0 0 1 0 2
    ∷ (body 0 0 1 ++ body 1 0 2)
    ∷ (rec3 op 1 0 ++ rec6 33 1 0 0 0 0 ++ rec3 32 0 0)
    ∷ rec3 0 0 0
    ∷ []

-- one bound element whose initial body sends internal name 0; its third body is of a role, 3 being a reaction to it
unfoldable pub sending : ℕ → List (List ℕ)
sending role =
    rec3 3 2 2
    ∷ []
    ∷ []
    ∷ rec3 0 0 1
    ∷ rec6 0 0 0 0 0 3
    ∷ (body 0 0 0 ++ body 1 0 1 ++ body role 0 2)
    ∷ (rec3 35 0 0 ++ rec3 32 0 0 ++ rec3 32 0 0)
    ∷ rec3 0 0 0
    ∷ []

-- ---- a record by its fields; a sheet of which some sections are there: declarations, names, charts, bodies, nodes, bindings

abbrev fields : ℕ → ℕ → ℕ → ℕ → ℕ → ℕ → ℕ → ℕ → Record
fields a b c d e f g h = record { f0 = a; f1 = b; f2 = c; f3 = d; f4 = e; f5 = f; f6 = g; f7 = h }

abbrev some : List ℕ → List ℕ → List ℕ → List ℕ → List ℕ → List ℕ → List ℕ
some declarations names charts bodies nodes bindings = sheet_of ([] ∷ [] ∷ declarations ∷ names ∷ charts ∷ bodies ∷ nodes ∷ bindings ∷ [])

-- ---- static rules

-- 33 assign to a chart's only variable, a Bool: "an assignment keeps its variable's type"
bool_to_bool : assign_type (some (rec3 0 0 0) [] [] [] [] []) (fields 0 0 0 1 0 0 0 0) (fields 0 0 0 0 0 0 0 0) (fields 33 1 0 0 0 0 0 0) (Expression 0) ≡ Statement
unfolding check
bool_to_bool = refl

int_to_bool : assign_type (some (rec3 0 0 0) [] [] [] [] []) (fields 0 0 0 1 0 0 0 0) (fields 0 0 0 0 0 0 0 0) (fields 33 1 0 0 0 0 0 0) (Expression 1) ≡ Wrong
unfolding check
int_to_bool = refl

-- 44 assign to an array of Bools over Component: a Port is no index of it
port_index : assign_element_type (some (rec3 0 2 0) [] [] [] [] []) (fields 0 0 0 1 0 0 0 0) (fields 44 0 0 0 0 0 0 0) (Expression 3) (Expression 0) ≡ Wrong
unfolding check
port_index = refl

-- an array of Timers over Component
array_of_clocks : declaration_static [] (fields 4 2 0 0 0 0 0 0) ≡ false
unfolding check
array_of_clocks = refl

-- operator 1 is a Bool
one_bool : literal_type (fields 1 1 0 0 0 0 0 0) ≡ 0
unfolding check
one_bool = refl

-- internal name 0, and a chart whose only body is a procedure: no reaction to it
no_reaction_lem : internal_name (some [] (rec3 0 0 1) [] (body 4 0 0) [] []) (fields 0 0 0 0 0 1 0 0) 0 ≡ false
unfolding check
no_reaction_lem = refl

-- ---- shape

-- "a whole number n from 1 to 64": an Int array over 65
number_65 : declaration_shape [] (fields 1 60065 0 0 0 0 0 0) ≡ false
unfolding check
number_65 = refl

-- "the 512 counts cells": one array of 64 Ints
cells_64 : cells_of (sheet_of (rec3 3 2 2 ∷ [] ∷ rec3 1 60064 0 ∷ [] ∷ rec6 0 0 0 1 0 0 ∷ [] ∷ [] ∷ rec3 0 0 0 ∷ [])) ≡ 64
unfolding check
cells_64 = refl

-- "up to 14 parameters": 15 Bools
bools : ℕ → List ℕ
bools zero = []
bools (suc n) = rec3 0 0 0 ++ bools n

fifteen : chart_shape (some (bools 15) [] [] [] [] []) 0 (fields 0 15 0 0 0 0 0 0) ≡ false
unfolding check bools
fifteen = refl

-- a second record with one constant: "without that f0 is also 1", be it the number of a chart; an unused field of it
unmarked : second_shape (some [] [] [] [] [] (rec3 0 1 0)) 0 1 ≡ false
unfolding check
unmarked = refl

unused_second : second_shape (some [] [] [] [] [] (rec3 65535 1 1)) 0 1 ≡ false
unfolding check
unused_second = refl

-- ---- uses of nodes

-- a body, a node, two bindings
gone-over : gone_over (some [] [] (rec6 0 0 0 0 0 1) (body 0 0 0) (rec3 32 0 0) (rec3 0 0 0 ++ rec3 0 0 0)) ≡ 4
unfolding check
gone-over = refl

-- node 0 is the constant of a chart's one parameter
constant_used : constant_uses (some [] [] (rec6 0 1 0 0 0 0) [] [] (rec3 0 0 0)) 0 0 ≡ 1
unfolding check
constant_used = refl

-- ---- the head says how many elements are bound, however many bindings there are

-- four components, two of them external, and one binding
half : List (List ℕ)
half = rec3 4 2 2 ∷ [] ∷ [] ∷ [] ∷ [] ∷ [] ∷ [] ∷ rec3 0 0 0 ∷ []

elements_by_the_head : elements_of (sheet_of half) ≡ 2
unfolding check half
elements_by_the_head = refl

-- ---- data types: "4 to 6 are clocks", there is no 7, "8+k enumerated type k"

cycler_no_data : data_type_of 6 ≡ no_data
unfolding check
cycler_no_data = refl

seven_no_data : data_type_of 7 ≡ no_data
unfolding check
seven_no_data = refl

eight_enumerated : data_type_of 8 ≡ enumerated_type 0
unfolding check
eight_enumerated = refl

-- ---- operators on two values: "11 less; 12 plus"; the last, "16 mod"

eleven_less : binary_of 11 ≡ less
unfolding check
eleven_less = refl

twelve_plus : binary_of 12 ≡ plus
unfolding check
twelve_plus = refl

sixteen_mod : binary_of 16 ≡ modulo
unfolding check
sixteen_mod = refl
