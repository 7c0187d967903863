-- A chart's internal reactions by name: at name n the number of a body plus 1, or 0.
use Rattle.std.specs.Prelude.{ℕ, ◌+◌, ◌<◌, ◌≡◌, List, Bool, length, get_or, ltb, leb}
use Rattle.sheet.specs.declared.Record.{Record}
use Rattle.sheet.specs.All.{◌and◌}
use Rattle.sheet.specs.Names.{chart_bodies}
use Rattle.sheet_rules.specs.Types.{has_reaction}

-- an entry that is a body of chart c
unfoldable pub tabled : Record → ℕ → Bool
tabled c e = ltb (chart_bodies c).first e and leb e ((chart_bodies c).first + (chart_bodies c).count)

-- An entry that is none of the chart's bodies counts for none, so a table need not be cleared between charts.
pub record Table (s : List ℕ) (c : Record) (t : List ℕ) : Type 0 where
  pub size : length t ≡ 4096
  pub right : (n : ℕ) → n < 4096 → tabled c (get_or t n 0) ≡ has_reaction s c n
