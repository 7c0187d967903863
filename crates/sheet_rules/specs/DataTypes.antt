-- Data types by their numbers.
use Rattle.std.specs.Prelude.{ℕ, ◌-◌, List, [], ◌∷◌}
use Rattle.sheet.specs.Table.{Line, up_to, look_up}

pub data DataType : Type 0 where
  bool int component port : DataType
  enumerated_type : ℕ → DataType
  no_data : DataType

-- "0 Bool, 1 Int, 2 Component, 3 Port, .. 8+k enumerated type k." 4 to 6 are clocks, and there is no 7
abbrev pub type_table : List (Line DataType)
type_table =
    up_to 0 bool
    ∷ up_to 1 int
    ∷ up_to 2 component
    ∷ up_to 3 port
    ∷ up_to 7 no_data
    ∷ []

unfoldable pub data_type_of : ℕ → DataType
data_type_of t = look_up type_table (enumerated_type (t - 8)) t
