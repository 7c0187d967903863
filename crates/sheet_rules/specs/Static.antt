-- The static rules (4.38 to 4.40 of LARIS 1.0) beside those of `Types`. Failing any gives 2.
use Rattle.std.specs.Prelude.{ℕ, ◌+◌, List, [], ◌∷◌, Bool, true, false, not, leb, eqb, Option}
use Rattle.sheet.specs.declared.Record.{Record}
use Rattle.sheet.specs.declared.Range.{Range}
use Rattle.sheet.specs.All.{◌and◌, all_below}
use Rattle.sheet.specs.Table.{Line, up_to, look_up}
use Rattle.sheet.specs.Names.{enumerated_types, declarations, names, charts, bodies, nodes, bindings, declared_type, declared_index, data_of, external, internal, chart_parameters, chart_bodies, role, initial, panic, external_reaction, reaction_port, reaction_name, body_parameters, body_locals, root, is_clock}
use Rattle.sheet.specs.Sheet.{count_of, record_of}
use Rattle.sheet_rules.specs.Fields.{holds, count_below, type_at}
use Rattle.sheet_rules.specs.Indices.{index_of, index_at, is_plain}
use Rattle.sheet_rules.specs.Bindings.{chart_bound, first_binding, elements_bound_in, constant_binding, constant_of}
use Rattle.sheet_rules.specs.Shape.{is_reaction}
use Rattle.sheet_rules.specs.Types.{is_statement, literal_type, has_class, name_range, type_of}

-- "An array .. of clocks, gets 2", wherever it stands
unfoldable pub declaration_static : List ℕ → Record → Bool
declaration_static s r = not (is_clock (declared_type r) and not (is_plain (index_of s (declared_index r))))

-- "clocks .. stand in no declaration range but chart variables", nor does an array
unfoldable pub plain_data : List ℕ → Range → Bool
plain_data s g = all_below g.count (λ j. not (is_clock (type_at s (g.first + j))) and is_plain (index_at s (g.first + j)))

unfoldable pub name_static : List ℕ → Record → Bool
name_static s r = plain_data s (data_of r)

-- ---- bodies

-- "reaction parameters have the name's types"
unfoldable pub same_types : List ℕ → Range → Range → Bool
same_types s g h = eqb g.count h.count and all_below g.count (λ j. eqb (type_at s (g.first + j)) (type_at s (h.first + j)))

-- "external .. reactions use external names, internal reactions internal ones"
unfoldable pub reaction_static : List ℕ → Record → Bool
reaction_static s b = has_class s (reaction_name b) (elim (eqb (role b) external_reaction) [ true ↦ external | false ↦ internal ]) and same_types s (body_parameters b) (name_range s (reaction_name b))

-- "one initial and one panic body, both without parameters"
unfoldable pub role_static : List ℕ → Record → Bool
role_static s b = elim (is_reaction (role b)) [ true ↦ reaction_static s b | false ↦ elim (leb (role b) panic) [ true ↦ eqb (body_parameters b).count 0 | false ↦ true ] ]

-- "roots are statements"
unfoldable pub body_static : List ℕ → Record → Record → Bool
body_static s c b = plain_data s (body_parameters b) and plain_data s (body_locals b) and role_static s b and is_statement (type_of s c b (root b))

-- ---- charts

-- the body numbered j in chart c
abbrev pub body_of : List ℕ → Record → ℕ → Option Record
body_of s c j = record_of s bodies ((chart_bodies c).first + j)

unfoldable pub has_role : List ℕ → ℕ → ℕ → Bool
has_role s i k = holds (record_of s bodies i) (λ b. eqb (role b) k)

unfoldable pub bodies_with : List ℕ → Record → ℕ → ℕ
bodies_with s c k = count_below (chart_bodies c).count (λ j. has_role s ((chart_bodies c).first + j) k)

-- "no chart has two external reactions with equal port and name, or two internal ones with equal name" (whose port field is 0)
unfoldable pub same_reaction : Record → Record → Bool
same_reaction a b = is_reaction (role a) and eqb (role a) (role b) and eqb (reaction_port a) (reaction_port b) and eqb (reaction_name a) (reaction_name b)

-- body b, numbered j in chart c, reacts to nothing that an earlier body reacts to
unfoldable pub no_twin : List ℕ → Record → ℕ → Record → Bool
no_twin s c j b = all_below j (λ i. holds (body_of s c i) (λ a. not (same_reaction a b)))

unfoldable pub bodies_static : List ℕ → Record → Bool
bodies_static s c = all_below (chart_bodies c).count (λ j. holds (body_of s c j) (λ b. no_twin s c j b and body_static s c b))

unfoldable pub chart_static : List ℕ → Record → Bool
chart_static s c =
    plain_data s (chart_parameters c)
    and eqb (bodies_with s c initial) 1
    and eqb (bodies_with s c panic) 1
    and bodies_static s c

-- ---- bindings: "binding constants their parameters'" types

unfoldable pub constant_static : List ℕ → ℕ → ℕ → Bool
constant_static s n t = holds (record_of s nodes n) (λ r. eqb (literal_type r) t)

-- of the element bound to chart c whose first record is k
unfoldable pub constants_static : List ℕ → ℕ → Record → Bool
constants_static s k c = all_below (chart_parameters c).count (λ j. holds (constant_binding s k j) (λ b. constant_static s (constant_of b j) (type_at s ((chart_parameters c).first + j))))

unfoldable pub binding_static : List ℕ → ℕ → Bool
binding_static s k = holds (chart_bound s k) (constants_static s k)

unfoldable pub bindings_static : List ℕ → Bool
bindings_static s = all_below (elements_bound_in s) (λ i. binding_static s (first_binding s i))

-- ---- every declaration, name and chart, and every element's binding

abbrev pub static_table : List ℕ → Record → List (Line Bool)
static_table s r =
    up_to enumerated_types true
    ∷ up_to declarations (declaration_static s r)
    ∷ up_to names (name_static s r)
    ∷ up_to charts (chart_static s r)
    ∷ []

-- a record of section k
unfoldable pub record_static : List ℕ → ℕ → Record → Bool
record_static s k r = look_up (static_table s r) true k

unfoldable pub each_static : List ℕ → ℕ → Bool
each_static s k = all_below (count_of s k) (λ i. holds (record_of s k i) (record_static s k))

unfoldable pub section_static : List ℕ → ℕ → Bool
section_static s k = elim (eqb k bindings) [ true ↦ bindings_static s | false ↦ each_static s k ]

unfoldable pub static : List ℕ → Bool
static s = all_below 8 (section_static s)
