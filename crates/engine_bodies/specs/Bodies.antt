-- What an engine knows where a body is to run.
use Rattle.std.specs.Prelude.{ℕ, List, ℤ}
use Rattle.sheet.specs.declared.Record.{Record}
use Rattle.machine_events.specs.Called.{Called}
use Rattle.engine_cells.specs.Cells.{ChartAt}
use Rattle.machine.specs.Valid.{OfSheet}

-- body `number` of section 5 is to run for element e, whose chart c is number n, with data zs; the sheet's table of cells is at hand
pub record ToRun (s : List ℕ) (st : List ℤ) (e n : ℕ) (c : Record) (number : ℕ) (zs : List ℤ) : Type 0 where
  pub state : OfSheet s st
  pub chart : ChartAt s e n c
  pub called : Called s e number zs
