-- What an engine knows where a telegram that was removed reaches its receiver.
use Rattle.std.specs.Prelude.{ℕ, ◌≡◌, List, Bool, true, length, ℤ}
use Rattle.machine.specs.declared.Telegram.{Telegram}
use Rattle.machine.specs.State.{is_internal}
use Rattle.machine.specs.Valid.{telegram_fits}
use Rattle.machine.specs.Valid.{OfSheet}

-- a state that a body changes, and beside it an old one, as long, which a refusal puts back
pub record Beside (s : List ℕ) (old st : List ℤ) : Type 0 where
  pub state : OfSheet s st
  pub long : length old ≡ length st

-- .. and a telegram that may wait for the sheet, internal or not
pub record Arrived (s : List ℕ) (old st : List ℤ) (t : Telegram) (inside : Bool) : Type 0 where
  pub beside : Beside s old st
  pub fits : telegram_fits s t ≡ true
  pub class : is_internal t ≡ inside
