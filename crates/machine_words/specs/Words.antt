-- What compiled code is given: bytes and 32-bit signed words.
use Rattle.std.specs.Prelude.{ℕ, ◌<◌, ◌≡◌, List, true, get_or, ℤ}
use Rattle.machine.specs.Values.{fits32}
use Rattle.machine.specs.State.{word_of}

-- "Bytes": each number is below 256, and past the end each counts as 0
abbrev pub Bytes : List ℕ → Type 0
Bytes s = (i : ℕ) → get_or s i 0 < 256

-- "32-bit signed words", past the end 0
abbrev pub Words : List ℤ → Type 0
Words ws = (i : ℕ) → fits32 (word_of ws i) ≡ true
