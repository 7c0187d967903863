-- Two sheets that agree in every record but the head's step limit.
use Rattle.std.specs.Prelude.{ℕ, zero, suc, ◌+◌, ◌/◌, ◌%◌, ◌≡◌, List, set, Option, Some, None}
use Rattle.sheet.specs.declared.Record.{Record}
use Rattle.sheet.specs.Names.{head}
use Rattle.sheet.specs.Sheet.{offset_of, directory_right, count_of, record_of}

-- a head without its step limit, f3
abbrev pub no_limit : Record → Record
no_limit r = record { f0 = r.f0; f1 = r.f1; f2 = r.f2; f3 = 0; f4 = r.f4; f5 = r.f5; f6 = r.f6; f7 = r.f7 }

-- what is compared of a record of section k: of the head, section 0, all but the limit
unfoldable pub compared : ℕ → Option Record → Option Record
compared zero (Some r) = Some (no_limit r)
compared zero None = None
compared (suc k) f = f

pub record ButLimit (s s' : List ℕ) : Type 0 where
  pub directory : directory_right s ≡ directory_right s'
  pub counts : (k : ℕ) → count_of s k ≡ count_of s' k
  pub records : (k n : ℕ) → compared k (record_of s k n) ≡ compared k (record_of s' k n)

-- ---- a sheet's own bytes with another limit

-- two bytes from a place on, "little-endian"
unfoldable pub put_number : List ℕ → ℕ → ℕ → List ℕ
put_number s at n = set (set s at (n % 256)) (at + 1) (n / 256)

-- where f3 of the head stands, the fourth number of the first record of section 0
abbrev pub limit_place : List ℕ → ℕ
limit_place s = offset_of s head + 6

-- "rewrite them with f3 = ..": the same bytes but for these two; where no head is there, nothing is written
unfoldable pub with_limit : ℕ → List ℕ → List ℕ
with_limit n s = elim (record_of s head 0) [ Some r ↦ put_number s (limit_place s) n | None ↦ s ]
