-- Laws of the directory and of the records.
use Rattle.std.specs.Prelude.{Some, None}
use Prim.Native.Nat.{ℕ, zero, suc, ◌+◌, ◌*◌, ◌-◌, ◌/◌, ◌<◌, ◌≤◌}
use mathlib.Core.Path.{◌≡◌, refl, sym, ◌∙◌}
use mathlib.Core.List.{List}
use mathlib.Core.Bool.{Bool, true, false}
use native.Mathlib.Omega.{arith}
use mathlib.Core.Logic.{◌⊎◌, inl, inr}
use native.Mathlib.Decide.{dec_lt}
use lib.ListN.{length, get_or, replicate, get_or-replicate}
use lib.Seq.{ext_get_or}
use lib.Dec.{ltb}
use borrow.Author.Tests.{ltb-true, leb-true, eqb-true, lt-ltb, le-ltb}
use Rattle.sheet.specs.declared.Record.{Record}
use Rattle.sheet.specs.All.{◌and◌}
use Rattle.sheet.specs.Sheet.{offset_of, length_of, start_of, pair_right, directory_right, count_of, record_at, record_of, sections_from, directory_of, count_in}
use Rattle.sheet.proofs.All.{and_first, and_second, and-false, all-at, not_so}

module _ (s : List ℕ) (right : directory_right s ≡ true) where
  pub pair_right_lem : (k : ℕ) → k < 8 → pair_right s k ≡ true
  unfolding directory_right
  pair_right_lem k h = all-at 8 (pair_right s) (and_first _ _ (and_second _ _ right)) k h

  pub ends_with_sheet : start_of s 8 ≡ length s
  unfolding directory_right
  ends_with_sheet = eqb-true _ _ (and_second _ _ (and_second _ _ right))

  pub sheet_limit : length s ≤ 65535
  unfolding directory_right
  sheet_limit = leb-true _ _ (and_first _ _ right)

  pub offset_right : (k : ℕ) → k < 8 → offset_of s k ≡ start_of s k
  unfolding pair_right
  offset_right k h = eqb-true _ _ (and_first _ _ (pair_right_lem k h))

  starts_later : (k : ℕ) → k < 8 → start_of s k ≤ start_of s (suc k)
  unfolding start_of
  starts_later k h = omega (arith, offset_right k h)

  -- each section starts where the one before it ends, so none ends after the sheet
  starts_inside_lem : (n k : ℕ) → k + n ≡ 8 → start_of s k ≤ length s
  starts_inside_lem zero k e = let f : k ≡ 8 = omega arith in rw f (omega (arith, ends_with_sheet))
  starts_inside_lem (suc n) k e = omega (arith, starts_later k (omega arith), starts_inside_lem n (suc k) (omega arith))

  pub section-inside : (k : ℕ) → k < 8 → offset_of s k + length_of s k ≤ length s
  unfolding start_of
  section-inside k h = starts_inside_lem (7 - k) (suc k) (omega arith)

  pub directory-inside : 32 ≤ length s
  unfolding start_of
  directory-inside = starts_inside_lem 8 0 refl

-- a sheet too short for its directory has none
pub too_short : (s : List ℕ) → length s < 32 → directory_right s ≡ false
too_short s h = not_so _ (λ right. let l : 32 ≤ length s = directory-inside s right in omega arith)

-- ---- the count of records

pub count_wrong : (s : List ℕ) (k : ℕ) → directory_right s ≡ false → count_of s k ≡ 0
unfolding count_of ◌and◌
count_wrong s k e = rw (count_of, e) refl

pub count-right : (s : List ℕ) (k : ℕ) → directory_right s ≡ true → k < 8 → count_of s k ≡ length_of s k / 16
unfolding count_of ◌and◌
count-right s k e h = rw (count_of, e, lt-ltb k 8 h) refl

pub count_none : (s : List ℕ) (k : ℕ) → 8 ≤ k → count_of s k ≡ 0
unfolding count_of
count_none s k h = rw (count_of, and-false (directory_right s) _ (le-ltb k 8 h)) refl

-- a directory with records is right, and the section is one of the eight
pub count_some : (s : List ℕ) (k n : ℕ) → n < count_of s k → (directory_right s ≡ true) × (k < 8)
unfolding count_of
count_some s k n h = go (directory_right s and ltb k 8) refl
  where
    go : (b : Bool) → directory_right s and ltb k 8 ≡ b → (directory_right s ≡ true) × (k < 8)
    go true e = (and_first _ _ e, ltb-true _ _ (and_second _ _ e))
    go false e = absurd (let z : count_of s k ≡ 0 = rw (count_of, e) refl in omega arith)

-- ---- a record

pub record_present : (s : List ℕ) (k n : ℕ) → n < count_of s k → record_of s k n ≡ Some (record_at s (offset_of s k + 16 * n))
unfolding record_of
record_present s k n h = rw (record_of, lt-ltb n (count_of s k) h) refl

pub record_absent : (s : List ℕ) (k n : ℕ) → count_of s k ≤ n → record_of s k n ≡ None
unfolding record_of
record_absent s k n h = rw (record_of, le-ltb n (count_of s k) h) refl

-- a record that is there is one of its section's
pub present-below : (s : List ℕ) (k n : ℕ) (r : Record) → record_of s k n ≡ Some r → n < count_of s k
present-below s k n r e = elim (dec_lt n (count_of s k)) [
  | yes l ↦ l
  | no l ↦ (let z : ◌≡◌ {A = ℕ} 0 1 = cc (record_absent s k n (omega arith)) in absurd (omega arith))
]

-- its sixteen bytes lie in the sheet
pub record_inside : (s : List ℕ) (k n : ℕ) → n < count_of s k → offset_of s k + 16 * n + 16 ≤ length s
record_inside s k n h =
    let some : (directory_right s ≡ true) × (k < 8) = count_some s k n h in
    let c : count_of s k ≡ length_of s k / 16 = count-right s k some.0 some.1 in
    omega (arith, section-inside s some.0 k some.1)

-- ---- the opened directory

sections_offset : (s : List ℕ) (n j k : ℕ) → k < n → get_or (sections_from s n j) (2 * k) 0 ≡ offset_of s (j + k)
unfolding sections_from
sections_offset s zero j k h = absurd (omega arith)
sections_offset s (suc n) j zero h = let e : j + 0 ≡ j = omega arith in rw e refl
sections_offset s (suc n) j (suc k) h =
    let e : 2 * suc k ≡ suc (suc (2 * k)) = omega arith in
    let f : j + suc k ≡ suc j + k = omega arith in
    rw (e, f) (sections_offset s n (suc j) k (omega arith))

sections_count : (s : List ℕ) (n j k : ℕ) → k < n → get_or (sections_from s n j) (2 * k + 1) 0 ≡ count_of s (j + k)
unfolding sections_from
sections_count s zero j k h = absurd (omega arith)
sections_count s (suc n) j zero h = let e : j + 0 ≡ j = omega arith in rw e refl
sections_count s (suc n) j (suc k) h =
    let e : 2 * suc k + 1 ≡ suc (suc (2 * k + 1)) = omega arith in
    let f : j + suc k ≡ suc j + k = omega arith in
    rw (e, f) (sections_count s n (suc j) k (omega arith))

sections_length : (s : List ℕ) (n j : ℕ) → length (sections_from s n j) ≡ 2 * n
unfolding sections_from
sections_length s zero j = refl
sections_length s (suc n) j = omega (arith, sections_length s n (suc j))

pub directory_wrong : (s : List ℕ) → directory_right s ≡ false → directory_of s ≡ replicate 16 0
unfolding directory_of
directory_wrong s e = rw (directory_of, e) refl

directory_sections : (s : List ℕ) → directory_right s ≡ true → directory_of s ≡ sections_from s 8 0
unfolding directory_of
directory_sections s e = rw (directory_of, e) refl

module _ (s : List ℕ) (right : directory_right s ≡ true) where
  pub directory_offset : (k : ℕ) → k < 8 → get_or (directory_of s) (2 * k) 0 ≡ offset_of s k
  directory_offset k h = let e : 0 + k ≡ k = omega arith in rw (directory_sections s right) (rw e at (sections_offset s 8 0 k h))

  pub directory-right-count : (k : ℕ) → k < 8 → get_or (directory_of s) (2 * k + 1) 0 ≡ count_of s k
  directory-right-count k h = let e : 0 + k ≡ k = omega arith in rw (directory_sections s right) (rw e at (sections_count s 8 0 k h))

  -- sixteen numbers with these entries are the directory
  pub directory_is : (d : List ℕ) → length d ≡ 16 → ((k : ℕ) → k < 8 → (get_or d (2 * k) 0 ≡ offset_of s k) × (get_or d (2 * k + 1) 0 ≡ count_of s k)) → d ≡ directory_of s
  directory_is d l h = rw (directory_sections s right) (ext_get_or 0 d (sections_from s 8 0) (l ∙ sym (sections_length s 8 0)) (λ i q. go i (i / 2) q (half i)))
    where
      half : (i : ℕ) → (i ≡ 2 * (i / 2)) ⊎ (i ≡ 2 * (i / 2) + 1)
      half i = elim (dec_lt (2 * (i / 2)) i) [ yes q ↦ inr (omega arith) | no q ↦ inl (omega arith) ]

      go : (i k : ℕ) → i < length d → (i ≡ 2 * k) ⊎ (i ≡ 2 * k + 1) → get_or d i 0 ≡ get_or (sections_from s 8 0) i 0
      go i k q (inl e) = let z : 0 + k ≡ k = omega arith in rw e ((h k (omega arith)).0 ∙ sym (rw z at (sections_offset s 8 0 k (omega arith))))
      go i k q (inr e) = let z : 0 + k ≡ k = omega arith in rw e ((h k (omega arith)).1 ∙ sym (rw z at (sections_count s 8 0 k (omega arith))))

pub directory-count : (s : List ℕ) (k : ℕ) → k < 8 → get_or (directory_of s) (2 * k + 1) 0 ≡ count_of s k
directory-count s k h = go (directory_right s) refl
  where
    go : (b : Bool) → directory_right s ≡ b → get_or (directory_of s) (2 * k + 1) 0 ≡ count_of s k
    go true e = directory-right-count s e k h
    go false e = rw (directory_wrong s e, count_wrong s k e) (get_or-replicate 16 (2 * k + 1) 0 0 (omega arith))

-- what holds of the numbers that were handed on
module _ (s d : List ℕ) (opened : d ≡ directory_of s) where
  pub opened_count : (k : ℕ) → k < 8 → get_or d (2 * k + 1) 0 ≡ count_of s k
  opened_count k h = rw opened (directory-count s k h)

  pub opened_offset : (k n : ℕ) → n < count_of s k → get_or d (2 * k) 0 ≡ offset_of s k
  opened_offset k n h = let some : (directory_right s ≡ true) × (k < 8) = count_some s k n h in rw opened (directory_offset s some.0 k some.1)

-- how many records an array says that a section has; of a sheet's directory it is as many as there are
pub count-there : (d : List ℕ) (k : ℕ) → k < 8 → count_in d k ≡ get_or d (2 * k + 1) 0
unfolding count_in
count-there d k h = rw (count_in, lt-ltb k 8 h) refl

pub count_past : (d : List ℕ) (k : ℕ) → 8 ≤ k → count_in d k ≡ 0
unfolding count_in
count_past d k h = rw (count_in, le-ltb k 8 h) refl

pub count_opened : (d : List ℕ) (k r : ℕ) → r ≡ count_in d k → (s : List ℕ) → d ≡ directory_of s → r ≡ count_of s k
count_opened d k r e s opened = elim (dec_lt k 8) [
  | yes h ↦ e ∙ count-there d k h ∙ opened_count s d opened k h
  | no h ↦ e ∙ count_past d k (omega arith) ∙ sym (count_none s k (omega arith))
]

-- a section has at most 4,095 records
pub count_limit : (s : List ℕ) (k : ℕ) → count_of s k ≤ 4095
count_limit s k = elim (dec_lt 4095 (count_of s k)) [
  | no h ↦ omega arith
  | yes h ↦ absurd (let some : (directory_right s ≡ true) × (k < 8) = count_some s k 4095 h in omega (arith, record_inside s k 4095 h, sheet_limit s some.0))
]
