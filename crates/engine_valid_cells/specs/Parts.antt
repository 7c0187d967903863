-- A part of the test of a running clock that has no name there, and a function.
use Rattle.std.specs.Prelude.{ℕ, Bool, true, false, eqb, ℤ, pos}
use Rattle.std.specs.Int.Signed.{le_z, lt_z}
use Rattle.sheet.specs.All.{◌and◌}
use Rattle.sheet.specs.Names.{timeout_type}

-- value and period of a running Timeout or Cycler
unfoldable pub value_fits : ℕ → ℤ → ℤ → Bool
value_fits t z p = elim (eqb t timeout_type) [ true ↦ le_z (pos 1) z and le_z z p | false ↦ le_z (pos 0) z and lt_z z p ]
