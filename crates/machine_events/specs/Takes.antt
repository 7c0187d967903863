-- A telegram taken from a state of the sheet.
use Rattle.std.specs.Prelude.{ℕ, ◌<◌, ◌≡◌, List, ℤ}
use Rattle.machine.specs.declared.Telegram.{Telegram}
use Rattle.machine.specs.State.{waiting, telegram_of, without_telegram}

-- telegram j waits, is t, and st' is the state without it
pub record Takes (s : List ℕ) (st : List ℤ) (j : ℕ) (t : Telegram) (st' : List ℤ) : Type 0 where
  pub waits : j < waiting st
  pub telegram : t ≡ telegram_of s st j
  pub left : st' ≡ without_telegram s st j
