-- Fields by number, records that a test asks for, ranges, sums.
use Rattle.std.specs.Prelude.{ℕ, zero, suc, ◌+◌, ◌-◌, List, [], ◌∷◌, Bool, true, false, get_or, ltb, leb, eqb, Option, Some, None}
use Rattle.sheet.specs.declared.Record.{Record}
use Rattle.sheet.specs.declared.Range.{Range}
use Rattle.sheet.specs.All.{all_below}
use Rattle.sheet.specs.Names.{head, enumerated_types, declarations, components, externals, ports, size, declared_type}
use Rattle.sheet.specs.Sheet.{count_of, record_of}

-- a record has eight fields
abbrev pub is_field : ℕ → Bool
is_field i = ltb i 8

unfoldable pub field_of : Record → ℕ → ℕ
field_of r i = get_or (r.f0 ∷ r.f1 ∷ r.f2 ∷ r.f3 ∷ r.f4 ∷ r.f5 ∷ r.f6 ∷ r.f7 ∷ []) i 0

-- "fields not named are 0": the fields from number n on
unfoldable pub zero_from : ℕ → Record → Bool
zero_from n r = all_below (8 - n) (λ i. eqb (field_of r (n + i)) 0)

-- a record that is there and meets a test
unfoldable pub holds : Option Record → (Record → Bool) → Bool
holds (Some r) p = p r
holds None p = false

-- a number of a record, 0 where there is none
unfoldable pub number_or0 : Option Record → (Record → ℕ) → ℕ
number_or0 (Some r) f = f r
number_or0 None f = 0

-- field i of record n of section k, 0 where there is none
unfoldable pub field_at : List ℕ → ℕ → ℕ → ℕ → ℕ
field_at s k n i = number_or0 (record_of s k n) (λ r. field_of r i)

unfoldable pub sum_below : ℕ → (ℕ → ℕ) → ℕ
sum_below zero f = 0
sum_below (suc n) f = sum_below n f + f n

abbrev pub one_if : Bool → ℕ
one_if true = 1
one_if false = 0

-- how many numbers below n meet a test
unfoldable pub count_below : ℕ → (ℕ → Bool) → ℕ
count_below n p = sum_below n (λ i. one_if (p i))

-- the head's numbers
unfoldable pub components_of : List ℕ → ℕ
components_of s = number_or0 (record_of s head 0) components

unfoldable pub externals_of : List ℕ → ℕ
externals_of s = number_or0 (record_of s head 0) externals

unfoldable pub ports_of : List ℕ → ℕ
ports_of s = number_or0 (record_of s head 0) ports

-- how many values an enumerated type has, 0 where there is no such type
unfoldable pub members_of : List ℕ → ℕ → ℕ
members_of s k = number_or0 (record_of s enumerated_types k) size

-- how many bound elements: "numbers below f1" are external, "the rest are bound elements"
unfoldable pub elements_of : List ℕ → ℕ
elements_of s = components_of s - externals_of s

-- declaration d is there, and its type meets a test
unfoldable pub declared_so : List ℕ → ℕ → (ℕ → Bool) → Bool
declared_so s d p = holds (record_of s declarations d) (λ r. p (declared_type r))

-- the type of a declaration, 0 where there is none
unfoldable pub type_at : List ℕ → ℕ → ℕ
type_at s d = number_or0 (record_of s declarations d) declared_type

-- "A range of records ends within its section; an empty one may start at the section's end."
unfoldable pub in_section : List ℕ → ℕ → Range → Bool
in_section s k g = leb (g.first + g.count) (count_of s k)
