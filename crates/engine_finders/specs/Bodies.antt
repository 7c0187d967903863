-- A search of a chart's bodies.
use Rattle.std.specs.Prelude.{◌≡◌, ℕ, ◌+◌, ◌<◌, ◌≤◌, List, Bool, true, false, Some}
use Rattle.sheet.specs.declared.Record.{Record}
use Rattle.sheet.specs.Names.{bodies, chart_bodies}
use Rattle.sheet.specs.Sheet.{record_of}
use Rattle.sheet_rules.specs.Fields.{holds}

-- code that tests a body: at each body of the sheet it returns nothing but what the test p says
abbrev pub Tests : List ℕ → (Record → Bool → Type 0) → (Record → Bool) → Type 0
Tests s returns p = (i : ℕ) (b : Record) (r : Bool) → record_of s bodies i ≡ Some b → returns b r → r ≡ p b

-- number j of chart c is there and meets the test, and none before it does; or j is the count, and none does
pub record FirstAt (s : List ℕ) (c : Record) (p : Record → Bool) (j : ℕ) : Type 0 where
  pub within : j ≤ (chart_bodies c).count
  pub before : (i : ℕ) → i < j → holds (record_of s bodies ((chart_bodies c).first + i)) p ≡ false
  pub here : j < (chart_bodies c).count → holds (record_of s bodies ((chart_bodies c).first + j)) p ≡ true
