-- The sheet: bytes, its directory, its records.
use Rattle.std.specs.Prelude.{ℕ, zero, suc, ◌+◌, ◌*◌, ◌/◌, ◌%◌, List, [], ◌∷◌, Bool, true, false, length, get_or, replicate, ltb, leb, eqb, Option, Some, None}
use Rattle.sheet.specs.All.{◌and◌, all_below}
use Rattle.sheet.specs.declared.Record.{Record}

-- "Bytes, little-endian 16-bit numbers". A byte past the end counts as 0, so that every offset has a number.
abbrev pub word_at : List ℕ → ℕ → ℕ
word_at s at = get_or s at 0 + 256 * get_or s (at + 1) 0

-- "First a directory of eight pairs of offset and length, in section order"
abbrev pub offset_of : List ℕ → ℕ → ℕ
offset_of s k = word_at s (4 * k)

abbrev pub length_of : List ℕ → ℕ → ℕ
length_of s k = word_at s (4 * k + 2)

-- where section k has to start: "the first offset is 32, each next is the previous offset plus length"
unfoldable pub start_of : List ℕ → ℕ → ℕ
start_of s zero = 32
start_of s (suc k) = offset_of s k + length_of s k

-- "Lengths are multiples of 16."
unfoldable pub pair_right : List ℕ → ℕ → Bool
pair_right s k = eqb (offset_of s k) (start_of s k) and eqb (length_of s k % 16) 0

-- "at most 65,535 bytes", "the last section ends with the sheet"
unfoldable pub directory_right : List ℕ → Bool
directory_right s = leb (length s) 65535 and all_below 8 (pair_right s) and eqb (start_of s 8) (length s)

-- how many records section k has; none "if the directory is wrong"
unfoldable pub count_of : List ℕ → ℕ → ℕ
count_of s k = elim (directory_right s and ltb k 8) [ true ↦ length_of s k / 16 | false ↦ 0 ]

-- "A record is eight 16-bit fields f0 to f7"
unfoldable pub record_at : List ℕ → ℕ → Record
record_at s at = record { f0 = word_at s at; f1 = word_at s (at + 2); f2 = word_at s (at + 4); f3 = word_at s (at + 6); f4 = word_at s (at + 8); f5 = word_at s (at + 10); f6 = word_at s (at + 12); f7 = word_at s (at + 14) }

-- "any record by section and number, and a record that isn't there is reported absent"
unfoldable pub record_of : List ℕ → ℕ → ℕ → Option Record
record_of s k n = elim (ltb n (count_of s k)) [ true ↦ Some (record_at s (offset_of s k + 16 * n)) | false ↦ None ]

-- The directory as it is handed on once it is tested: for section k its offset at place 2k and its count of records at place 2k + 1; all 0 if it is wrong.
unfoldable pub sections_from : List ℕ → ℕ → ℕ → List ℕ
sections_from s zero k = []
sections_from s (suc n) k = offset_of s k ∷ count_of s k ∷ sections_from s n (suc k)

unfoldable pub directory_of : List ℕ → List ℕ
directory_of s = elim (directory_right s) [ true ↦ sections_from s 8 0 | false ↦ replicate 16 0 ]

-- how many records section k has by such an array, whatever it holds; sections above 7 have none
unfoldable pub count_in : List ℕ → ℕ → ℕ
count_in d k = elim (ltb k 8) [ true ↦ get_or d (2 * k + 1) 0 | false ↦ 0 ]
