use Rattle.std.specs.Prelude.{Some, None}
use native.Mathlib.Omega.{arith}
use Prim.Native.Nat.{ℕ, ◌+◌, ◌*◌, ◌<◌, ◌≤◌}
use mathlib.Core.Path.{◌≡◌, sym, ap, ◌∙◌}
use mathlib.Core.List.{List}
use lib.ListN.{length, get_or}
use Rattle.sheet.specs.Sheet.{offset_of, count_of, directory_of, record_at, record_of}
use Rattle.sheet.specs.declared.Record.{Record}
use Rattle.sheet.proofs.Sheet.{opened_count, opened_offset, count_none, record_absent, record_present, record_inside}
use Rattle.sheet_reader.proofs.read.Goals as goal

-- The record's sixteen bytes lie in the sheet, because the directory is the sheet's and the number is below the count.
module _ (s d : List ℕ) (k n m : ℕ) (opened : d ≡ directory_of s) where
  no-section : 8 ≤ k → None ≡ record_of s k n
  no-section h = sym (record_absent s k n (omega (arith, count_none s k h)))

  -- the count stands at place m, the offset at place o
  module _ (h : k < 8) (at : m ≡ 2 * k + 1) where
    count-is : get_or d m 0 ≡ count_of s k
    count-is = ap (λ i. get_or d i 0) at ∙ opened_count s d opened k h

    past-last : get_or d m 0 ≤ n → None ≡ record_of s k n
    past-last l = sym (record_absent s k n (omega (arith, count-is)))

    module _ (l : n < get_or d m 0) (o : ℕ) (first : o ≡ 2 * k) where
      below : n < count_of s k
      below = omega (arith, count-is)

      offset-is : get_or d o 0 ≡ offset_of s k
      offset-is = ap (λ i. get_or d i 0) first ∙ opened_offset s d opened k n below

      inside : get_or d o 0 + 16 * n + 16 ≤ length s
      inside = omega (arith, offset-is, record_inside s k n below)

      there : (r : Record) → r ≡ record_at s (get_or d o 0 + 16 * n) → Some r ≡ record_of s k n
      there r e = ap Some (e ∙ ap (λ o. record_at s (o + 16 * n)) offset-is) ∙ sym (record_present s k n below)

pub returns-then-section-ge8 : goal.returns-then-section-ge8
returns-then-section-ge8 c = no-section _ _ _ _ 0 c.requires c.if-section-ge8.true

pub returns-then-directory-count : goal.returns-then-directory-count
returns-then-directory-count c = past-last _ _ _ _ _ c.requires (omega arith) c.count_place-count.ensures c.if-directory-count.true

pub overflow_mul-at : goal.overflow_mul-at
overflow_mul-at c = omega (arith, inside _ _ _ _ _ c.requires (omega arith) c.count_place-count.ensures c.if-directory-count.false _ c.offset_place-offset.ensures)

pub overflow_add-at : goal.overflow_add-at
overflow_add-at c = omega (arith, inside _ _ _ _ _ c.requires (omega arith) c.count_place-count.ensures c.if-directory-count.false _ c.offset_place-offset.ensures)

pub fields_at-requires : goal.fields_at-requires
fields_at-requires c = inside _ _ _ _ _ c.requires (omega arith) c.count_place-count.ensures c.if-directory-count.false _ c.offset_place-offset.ensures

pub returns : goal.returns
returns c = there _ _ _ _ _ c.requires (omega arith) c.count_place-count.ensures c.if-directory-count.false _ c.offset_place-offset.ensures _ c.fields_at.ensures
