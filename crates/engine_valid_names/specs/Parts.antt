-- A part of the test of data that has no name there, and a function.
use Rattle.std.specs.Prelude.{ℕ, ◌+◌, List, Bool, true, false, ltb, ℤ}
use Rattle.sheet.specs.declared.Range.{Range}
use Rattle.sheet_rules.specs.Fields.{declared_so}
use Rattle.machine.specs.Values.{is_zero, in_type}

-- datum j of the data of a range
unfoldable pub datum_fits : List ℕ → Range → ℕ → ℤ → Bool
datum_fits s g j z = elim (ltb j g.count) [ true ↦ declared_so s (g.first + j) (λ t. in_type s t z) | false ↦ is_zero z ]
