-- A body that an event or start runs.
use Rattle.std.specs.Prelude.{ℕ, ◌+◌, ◌<◌, ◌≡◌, List, true, ℤ}
use Rattle.sheet.specs.declared.Record.{Record}
use Rattle.sheet.specs.Names.{chart_bodies, body_parameters}
use Rattle.sheet_rules.specs.Fields.{type_at}
use Rattle.machine.specs.Values.{in_type}
use Rattle.machine.specs.Run.{datum}
use Rattle.machine_passed.specs.Places.{InChart, Element}

-- body `number` of section 5 stands in the chart of element e, and the data are of its parameters' types
pub record Called (s : List ℕ) (e number : ℕ) (zs : List ℤ) : Type 0 where
  pub binding : Record
  pub chart : Record
  pub body : Record
  pub element : Element s e binding chart
  pub inside : InChart s chart body
  pub at : number ≡ (chart_bodies chart).first + inside.number
  pub parameters : (j : ℕ) → j < (body_parameters body).count → in_type s (type_at s ((body_parameters body).first + j)) (datum zs j) ≡ true
