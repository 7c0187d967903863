-- A sheet's length as the programs read it, and how much of events is read at once.
use Rattle.std.specs.Prelude.{ℕ, ◌*◌, min, true, false, List, ltb, length, take, drop}
use Rattle.engine_words.specs.Words.{number_at}

-- "an incomplete length is 0"; a sheet longer than any that passes counts as one of 65,536 bytes
unfoldable pub sheet_size : List ℕ → ℕ → ℕ
sheet_size head came = elim (ltb came 4) [ true ↦ 0 | false ↦ min (number_at head 0) 65536 ]

-- the sheet behind its length in an input; one cut short is the bytes that there are
unfoldable pub sheet_in : List ℕ → List ℕ
sheet_in xs = take (sheet_size xs (length xs)) (drop 4 xs)

-- as many events at most
abbrev pub room_events : ℕ
room_events = 1000

-- "nine little-endian signed 32-bit words"
abbrev pub bytes_of_event : ℕ
bytes_of_event = 36

abbrev pub room_bytes : ℕ
room_bytes = room_events * bytes_of_event
