-- A body that a call enters.
use Rattle.std.specs.Prelude.{ℕ, ◌+◌, ◌<◌, ◌≡◌, List, true, ℤ, Some}
use Rattle.sheet.specs.declared.Record.{Record}
use Rattle.sheet.specs.Names.{bodies, body_parameters}
use Rattle.sheet.specs.Sheet.{record_of}
use Rattle.sheet_rules.specs.Fields.{type_at}
use Rattle.machine.specs.Values.{in_type}
use Rattle.machine.specs.Valid.{OfSheet}
use Rattle.machine.specs.Run.{datum}
use Rattle.machine_passed.specs.Places.{InChart}
use Rattle.engine_ready.specs.Ready.{context_at, Running}

-- body b, numbered k, of the chart whose body runs; zs are parameters of their types
pub record Callable (s w : List ℕ) (st : List ℤ) (k : ℕ) (b : Record) (zs : List ℤ) : Type 0 where
  pub running : Running s w
  pub state : OfSheet s st
  pub there : record_of s bodies k ≡ Some b
  pub inside : InChart s (context_at s w).chart b
  pub parameters : (i : ℕ) → i < (body_parameters b).count → in_type s (type_at s ((body_parameters b).first + i)) (datum zs i) ≡ true
