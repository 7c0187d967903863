-- The classes of telegrams by number.
use Rattle.std.specs.Prelude.{ℕ, ◌+◌, ◌*◌, ◌≡◌, true, false, nat_abs}
use Rattle.machine.specs.declared.Telegram.{Telegram}
use Rattle.machine.specs.Values.{is_below}
use Rattle.machine.specs.State.{is_internal}

-- what is so of every telegram that may wait: both ends are numbers below 64, "components (up to 64)", and an internal one goes from an element to itself
pub record EndsFit (t : Telegram) : Type 0 where
  pub sender : is_below t.sender 64 ≡ true
  pub receiver : is_below t.receiver 64 ≡ true
  pub itself : is_internal t ≡ true → t.sender ≡ t.receiver

-- one for each sender, receiver and class: 4,096 for external telegrams, 64 for internal ones
unfoldable pub class_number : Telegram → ℕ
class_number t = elim (is_internal t) [ true ↦ 4096 + nat_abs t.receiver | false ↦ 64 * nat_abs t.sender + nat_abs t.receiver ]
