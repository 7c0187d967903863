-- Which numbers are which data types.
use Prim.Native.Nat.{ℕ, ◌-◌, ◌<◌, ◌≤◌}
use mathlib.Core.Path.{◌≡◌, refl}
use Rattle.sheet.specs.Table.{look_up}
use Rattle.sheet.proofs.Table.{lines_past, line_at}
use Rattle.sheet_rules.specs.DataTypes.{enumerated_type, no_data, type_table, data_type_of}

-- clocks, and 7
pub type_no_data : (t : ℕ) → 4 ≤ t → t < 8 → data_type_of t ≡ no_data
unfolding data_type_of
type_no_data t h l = line_at (enumerated_type (t - 8)) type_table 4 4 t _ _ refl tt h l

pub type_enumerated : (t : ℕ) → 8 ≤ t → data_type_of t ≡ enumerated_type (t - 8)
unfolding data_type_of look_up
type_enumerated t h = lines_past (enumerated_type (t - 8)) 5 type_table 8 t tt h
