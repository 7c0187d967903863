-- The definitions of shape, uses, static rules and check that changed with M-105, by the text that they had before: a chart had up to seven parameters, and record i of section 7 bound element i.
-- They stand over today's definitions of everything else (the shape of a head, a body or a tree of nodes, the static rule of a chart or of a constant ..), so a comparison with them says nothing about those.
use Rattle.std.specs.Prelude.{ℕ, ◌+◌, List, [], ◌∷◌, Bool, true, false, leb, eqb}
use Rattle.sheet.specs.declared.Record.{Record}
use Rattle.sheet.specs.All.{◌and◌, all_below}
use Rattle.sheet.specs.Table.{Line, up_to, look_up}
use Rattle.sheet.specs.Names.{head, enumerated_types, declarations, names, charts, bodies, nodes, bindings, chart_parameters, chart_variables, chart_bodies, bound_chart}
use Rattle.sheet.specs.Sheet.{count_of, directory_right, record_of}
use Rattle.sheet_rules.specs.declared.Checked.{Checked}
use Rattle.sheet_rules.specs.declared.Checked.TheVariants.{Passed, Shape, Static}
use Rattle.sheet_rules.specs.Fields.{field_of, zero_from, holds, number_or0, sum_below, count_below, components_of, externals_of, elements_of, type_at, in_section}
use Rattle.sheet_rules.specs.Indices.{cells_before}
use Rattle.sheet_rules.specs.Shape.{head_shape, enumerated_shape, declaration_shape, name_shape, bodies_up_to, bodies_covered, body_shape, constant_shape}
use Rattle.sheet_rules.specs.Uses.{over_charts, home_of, home_chart, operand_uses, root_uses}
use Rattle.sheet_rules.specs.Static.{declaration_static, name_static, chart_static, constant_static}
use Rattle.sheet_rules.specs.Check.{nodes_shape}

-- ---- shape

unfoldable pub chart_shape : List ℕ → ℕ → Record → Bool
chart_shape s k r =
    in_section s declarations (chart_parameters r)
    and leb (chart_parameters r).count 7
    and in_section s declarations (chart_variables r)
    and leb (chart_variables r).count 32
    and eqb (chart_bodies r).first (bodies_up_to s k)
    and zero_from 6 r

-- the constant for parameter j in a binding record
abbrev pub constant_of : Record → ℕ → ℕ
constant_of b j = field_of b (1 + j)

unfoldable pub constants_shape : List ℕ → Record → Record → Bool
constants_shape s r c = all_below (chart_parameters c).count (λ j. constant_shape s (constant_of r j)) and zero_from (1 + (chart_parameters c).count) r

unfoldable pub binding_shape : List ℕ → Record → Bool
binding_shape s r = holds (record_of s charts (bound_chart r)) (constants_shape s r)

unfoldable pub elements_bound : List ℕ → Bool
elements_bound s = eqb (externals_of s + count_of s bindings) (components_of s)

unfoldable pub cells_bound : List ℕ → ℕ → ℕ
cells_bound s i = number_or0 (record_of s bindings i) (λ b. number_or0 (record_of s charts (bound_chart b)) (λ c. cells_before s c (chart_variables c).count))

unfoldable pub cells_of : List ℕ → ℕ
cells_of s = sum_below (elements_of s) (cells_bound s)

abbrev pub shape_table : List ℕ → ℕ → Record → List (Line Bool)
shape_table s i r =
    up_to head (head_shape r)
    ∷ up_to enumerated_types (enumerated_shape r)
    ∷ up_to declarations (declaration_shape s r)
    ∷ up_to names (name_shape s r)
    ∷ up_to charts (chart_shape s i r)
    ∷ up_to bodies (body_shape s r)
    ∷ up_to nodes true
    ∷ up_to bindings (binding_shape s r)
    ∷ []

unfoldable pub record_shape : List ℕ → ℕ → ℕ → Record → Bool
record_shape s k i r = look_up (shape_table s i r) true k

unfoldable pub section_shape : List ℕ → ℕ → Bool
section_shape s k = all_below (count_of s k) (λ i. holds (record_of s k i) (record_shape s k i))

unfoldable pub sections_shape : List ℕ → Bool
sections_shape s = all_below 8 (section_shape s)

unfoldable pub shape_with : Bool → List ℕ → Bool
shape_with once s =
    directory_right s
    and eqb (count_of s head) 1
    and sections_shape s
    and bodies_covered s
    and elements_bound s
    and leb (cells_of s) 512
    and once
    and nodes_shape s

-- ---- uses

abbrev pub over_bindings : List ℕ → (Record → ℕ) → ℕ
over_bindings s f = sum_below (count_of s bindings) (λ i. number_or0 (record_of s bindings i) f)

unfoldable pub constant_uses : List ℕ → ℕ → Record → ℕ
constant_uses s n b = number_or0 (record_of s charts (bound_chart b)) (λ c. count_below (chart_parameters c).count (λ j. eqb (constant_of b j) n))

unfoldable pub uses_of : List ℕ → ℕ → ℕ
uses_of s n =
    over_charts s (root_uses s n)
    + over_bindings s (constant_uses s n)
    + sum_below (count_of s nodes) (λ m. operand_uses s (home_chart s (home_of s m)) m n)

unfoldable pub used_once : List ℕ → Bool
used_once s = all_below (count_of s nodes) (λ n. eqb (uses_of s n) 1)

unfoldable pub shape : List ℕ → Bool
shape s = shape_with (used_once s) s

-- ---- static rules

unfoldable pub constants_static : List ℕ → Record → Record → Bool
constants_static s r c = all_below (chart_parameters c).count (λ j. constant_static s (constant_of r j) (type_at s ((chart_parameters c).first + j)))

unfoldable pub binding_static : List ℕ → Record → Bool
binding_static s r = holds (record_of s charts (bound_chart r)) (constants_static s r)

abbrev pub static_table : List ℕ → Record → List (Line Bool)
static_table s r =
    up_to enumerated_types true
    ∷ up_to declarations (declaration_static s r)
    ∷ up_to names (name_static s r)
    ∷ up_to charts (chart_static s r)
    ∷ up_to nodes true
    ∷ up_to bindings (binding_static s r)
    ∷ []

unfoldable pub record_static : List ℕ → ℕ → Record → Bool
record_static s k r = look_up (static_table s r) true k

unfoldable pub section_static : List ℕ → ℕ → Bool
section_static s k = all_below (count_of s k) (λ i. holds (record_of s k i) (record_static s k))

unfoldable pub static : List ℕ → Bool
static s = all_below 8 (section_static s)

-- ---- check

unfoldable pub check_of : List ℕ → Checked
check_of s = elim (shape s) [ true ↦ elim (static s) [ true ↦ Passed | false ↦ Static ] | false ↦ Shape ]
