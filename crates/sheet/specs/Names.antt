-- Names for the paper's numbers, so that later definitions read like it: sections, the fields by meaning, types, operators.
use Rattle.std.specs.Prelude.{ℕ, ◌+◌, Bool, leb}
use Rattle.sheet.specs.All.{◌and◌}
use Rattle.sheet.specs.declared.Record.{Record}
use Rattle.sheet.specs.declared.Range.{Range}

-- ---- sections

abbrev pub head : ℕ
head = 0

abbrev pub enumerated_types : ℕ
enumerated_types = 1

abbrev pub declarations : ℕ
declarations = 2

-- telegram names
abbrev pub names : ℕ
names = 3

-- a chart (the paper's LSC) says how an element behaves
abbrev pub charts : ℕ
charts = 4

abbrev pub bodies : ℕ
bodies = 5

abbrev pub nodes : ℕ
nodes = 6

abbrev pub bindings : ℕ
bindings = 7

-- ---- the head: components, of them external, ports, step limit

abbrev pub components : Record → ℕ
components r = r.f0

abbrev pub externals : Record → ℕ
externals r = r.f1

abbrev pub ports : Record → ℕ
ports r = r.f2

abbrev pub step_limit : Record → ℕ
step_limit r = r.f3

-- ---- an enumerated type; a declaration

abbrev pub size : Record → ℕ
size r = r.f0

abbrev pub default_member : Record → ℕ
default_member r = r.f1

abbrev pub declared_type : Record → ℕ
declared_type r = r.f0

abbrev pub declared_index : Record → ℕ
declared_index r = r.f1

-- ---- a range of records: its first one and how many

abbrev pub range : ℕ → ℕ → Range
range first count = record { first = first; count = count }

-- ---- a telegram name: its data, its class

abbrev pub data_of : Record → Range
data_of r = range r.f0 r.f1

abbrev pub class : Record → ℕ
class r = r.f2

abbrev pub external : ℕ
external = 0

abbrev pub internal : ℕ
internal = 1

-- ---- a chart

abbrev pub chart_parameters : Record → Range
chart_parameters r = range r.f0 r.f1

abbrev pub chart_variables : Record → Range
chart_variables r = range r.f2 r.f3

abbrev pub chart_bodies : Record → Range
chart_bodies r = range r.f4 r.f5

-- ---- a body

abbrev pub role : Record → ℕ
role r = r.f0

abbrev pub initial : ℕ
initial = 0

abbrev pub panic : ℕ
panic = 1

abbrev pub external_reaction : ℕ
external_reaction = 2

abbrev pub internal_reaction : ℕ
internal_reaction = 3

abbrev pub procedure : ℕ
procedure = 4

abbrev pub reaction_port : Record → ℕ
reaction_port r = r.f1

abbrev pub reaction_name : Record → ℕ
reaction_name r = r.f2

abbrev pub body_parameters : Record → Range
body_parameters r = range r.f3 r.f4

abbrev pub body_locals : Record → Range
body_locals r = range r.f5 r.f6

abbrev pub root : Record → ℕ
root r = r.f7

-- ---- a binding: the chart; the constants are f1 onward

abbrev pub bound_chart : Record → ℕ
bound_chart r = r.f0

-- ---- types: 4 to 6 are clocks, 8 + k is enumerated type k, the others are data types too

abbrev pub bool_type : ℕ
bool_type = 0

abbrev pub int_type : ℕ
int_type = 1

abbrev pub component_type : ℕ
component_type = 2

abbrev pub port_type : ℕ
port_type = 3

abbrev pub timer_type : ℕ
timer_type = 4

abbrev pub timeout_type : ℕ
timeout_type = 5

abbrev pub cycler_type : ℕ
cycler_type = 6

abbrev pub enumerated : ℕ → ℕ
enumerated k = 8 + k

unfoldable pub is_clock : ℕ → Bool
is_clock t = leb 4 t and leb t 6

-- ---- operators

abbrev pub operator : Record → ℕ
operator r = r.f0

-- literals are 1 to 6; the table of all forms stands with the definitions of shape
unfoldable pub is_literal : ℕ → Bool
is_literal op = leb 1 op and leb op 6

-- ---- places of a read or an assignment (f1 of operators 7 and 33)

abbrev pub chart_parameter : ℕ
chart_parameter = 0

abbrev pub chart_variable : ℕ
chart_variable = 1

-- a body's parameters first, then its locals
abbrev pub body_variable : ℕ
body_variable = 2
