-- Code that tests a telegram by where it lies.
use Rattle.std.specs.Prelude.{◌≡◌, ℕ, ◌+◌, ◌≤◌, List, Bool, length, ℤ}
use Rattle.machine.specs.declared.Telegram.{Telegram}
use Rattle.machine.specs.State.{telegram_in}

-- it may be asked about any eight words of a state
abbrev pub Asked : List ℤ → (ℕ → Type 0) → Type 0
Asked st may = (at : ℕ) → at + 8 ≤ length st → may at

-- .. and returns nothing but what the test p says of the telegram that they are
abbrev pub Tests : List ℤ → (ℕ → Bool → Type 0) → (Telegram → Bool) → Type 0
Tests st returns p = (at : ℕ) (r : Bool) → at + 8 ≤ length st → returns at r → r ≡ p (telegram_in st at)
