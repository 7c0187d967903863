-- What the parts of a send come to.
use Rattle.std.specs.Prelude.{ℕ, List, ℤ, pos}
use Rattle.sheet.specs.declared.Record.{Record}
use Rattle.sheet.specs.Names.{data_of}
use Rattle.machine.specs.Run.{World, telegram, append}
use Rattle.engine_context.specs.Context.{element_in}
use Rattle.engine_ready.specs.Words.{then_data}
use Rattle.engine_data.specs.Data.{data_at}

module _ (s w : List ℕ) (st lo : List ℤ) where
  -- a telegram of the element with name record a
  abbrev pub sent : Record → Record → ℤ → ℤ → ℕ → World
  sent r a receiver port l = then_data (data_at s w st lo r (data_of a) l) st lo (λ zs l. append s (telegram (pos (element_in w)) receiver port r.f3 zs) l st lo)
