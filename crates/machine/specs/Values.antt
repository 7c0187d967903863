-- Values and their types, and who is bound to which chart.
use Rattle.sheet.specs.declared.Record.{Record}
use Rattle.std.specs.Prelude.{ℕ, ◌-◌, List, Bool, true, false, ltb, leb, eqb, ℤ, pos, negsuc, Option, Some, None}
use Rattle.std.specs.Int.Signed.{mag, le_z}
use Rattle.sheet.specs.Names.{enumerated_types, charts, bindings, default_member, bound_chart, is_clock}
use Rattle.sheet.specs.All.{◌and◌}
use Rattle.sheet.specs.Sheet.{record_of}
use Rattle.sheet_rules.specs.Fields.{number_or0, declared_so, sum_below, components_of, externals_of, ports_of, members_of}
use Rattle.sheet_rules.specs.DataTypes.{DataType, bool, int, component, port, enumerated_type, no_data, data_type_of}
use Rattle.sheet_rules.specs.Bindings.{first_binding}
use Rattle.sheet_rules.specs.Shape.{cells_bound}

-- ---- words: 32-bit signed numbers

-- `mag` is z, or -1 - z where z is negative: both halves of the 32 bits have the same bound
unfoldable pub fits32 : ℤ → Bool
fits32 z = ltb (mag z) 2147483648

-- a number from 0 on, below n
unfoldable pub is_below : ℤ → ℕ → Bool
is_below (pos k) n = ltb k n
is_below (negsuc k) n = false

-- a word that is a number, and which record of a section it names: none where it is negative
unfoldable pub record_by : List ℕ → ℕ → ℤ → Option Record
record_by s k (pos n) = record_of s k n
record_by s k (negsuc n) = None

unfoldable pub is_zero : ℤ → Bool
is_zero (pos k) = eqb k 0
is_zero (negsuc k) = false

-- two words are equal
abbrev pub same_word : ℤ → ℤ → Bool
same_word a b = le_z a b and le_z b a

-- ---- data types

-- "Every value is in its type": false, true; 32 bits; a component; a port; a member. A clock is no value
unfoldable pub in_data_type : List ℕ → DataType → ℤ → Bool
in_data_type s bool z = is_below z 2
in_data_type s int z = fits32 z
in_data_type s component z = is_below z (components_of s)
in_data_type s port z = is_below z (ports_of s)
in_data_type s (enumerated_type k) z = is_below z (members_of s k)
in_data_type s no_data z = false

unfoldable pub in_type : List ℕ → ℕ → ℤ → Bool
in_type s t z = in_data_type s (data_type_of t) z

-- "Defaults: false, 0, Log, log, the declared member, a stopped clock"
unfoldable pub default_in : List ℕ → DataType → ℤ
default_in s bool = pos 0
default_in s int = pos 0
default_in s component = pos 0
default_in s port = pos 0
default_in s (enumerated_type k) = pos (number_or0 (record_of s enumerated_types k) default_member)
default_in s no_data = pos 0

unfoldable pub default_of : List ℕ → ℕ → ℤ
default_of s t = default_in s (data_type_of t)

-- the declaration is there and its default is in its type, or it is a clock
unfoldable pub has_default : List ℕ → ℕ → Bool
has_default s d = declared_so s d (λ t. elim (is_clock t) [ true ↦ true | false ↦ in_type s t (default_of s t) ])

-- ---- bound elements: the components from the head's f1 on

unfoldable pub is_bound : List ℕ → ℕ → Bool
is_bound s e = leb (externals_of s) e and ltb e (components_of s)

-- the number of the first record that binds element e
unfoldable pub binding_at : List ℕ → ℕ → ℕ
binding_at s e = first_binding s (e - externals_of s)

unfoldable pub binding_of : List ℕ → ℕ → Option Record
binding_of s e = elim (is_bound s e) [ true ↦ record_of s bindings (binding_at s e) | false ↦ None ]

unfoldable pub chart_of : List ℕ → ℕ → Option Record
chart_of s e = elim (binding_of s e) [ Some b ↦ record_of s charts (bound_chart b) | None ↦ None ]

-- an element's first cell: "elements in order, variables in order"
unfoldable pub first_cell : List ℕ → ℕ → ℕ
first_cell s e = sum_below (e - externals_of s) (cells_bound s)
