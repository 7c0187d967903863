-- What an arming comes to.
use Rattle.std.specs.Prelude.{ℕ, true, false, eqb, ℤ, pos}
use Rattle.sheet.specs.Names.{timeout_type}

-- "Arming a Timeout sets its value to the period, a Cycler's to 0", as the machine says it
abbrev pub armed_value : ℕ → ℤ → ℤ
armed_value t period = elim (eqb t timeout_type) [ true ↦ period | false ↦ pos 0 ]
