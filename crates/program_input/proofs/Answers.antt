-- What reads bring together, and a sheet's length.
use Rattle.std.proofs.Common.{◌≡◌, ℕ, ◌+◌, ◌-◌, ◌<◌, ◌≤◌, ◌++◌, List, length, take, min, slice_range, refl, sym, ap, ◌∙◌, arith, drop_at, length-take-le}
use Rattle.std.proofs.lemmas.Slice.{take-put_mid_below}
use borrow.Author.Tests.{lt-ltb, le-ltb}
use borrow.Rule.Slice.PartMut.{put_mid, post_of}
use lib.Seq.{take-add, take-append-le}
use Rattle.engine_words.specs.Words.{number_at}
use Rattle.program_input.specs.Input.{sheet_size}

-- the n first bytes of a part that begins at a
pub part_read : (a k n : ℕ) (xs ys : List ℕ) → a ≤ length xs → n ≤ length ys → slice_range (put_mid a k xs ys) a (a + n) ≡ take n ys
part_read a k n xs ys within fits =
    let same : (a + n) - a ≡ n = omega arith in
    let after = post_of a k xs in
    ap (take ((a + n) - a)) (drop_at (take a xs) (ys ++ after) a (length-take-le a xs within)) ∙ ap (λ m. take m (ys ++ after)) same ∙ take-append-le n ys after fits

-- the first a bytes and then those that were read behind them
pub read_behind : (a k n : ℕ) (xs ys : List ℕ) → a ≤ length xs → n ≤ length ys → take a xs ++ take n ys ≡ take (a + n) (put_mid a k xs ys)
read_behind a k n xs ys within fits =
    let all = put_mid a k xs ys in
    let front = take-put_mid_below a k xs ys a (omega arith) within in
    let same : a + ((a + n) - a) ≡ a + n = omega arith in
    ap (λ l. take a xs ++ l) (sym (part_read a k n xs ys within fits)) ∙ ap (λ l. l ++ slice_range all a (a + n)) (sym front) ∙ sym (take-add a ((a + n) - a) all) ∙ ap (λ m. take m all) same

module _ (head : List ℕ) (came : ℕ) where
  pub size_cut : came < 4 → 0 ≡ sheet_size head came
  unfolding sheet_size
  size_cut h = rw (sheet_size, lt-ltb came 4 h) refl

  pub size_whole : 4 ≤ came → min (number_at head 0) 65536 ≡ sheet_size head came
  unfolding sheet_size
  size_whole h = rw (sheet_size, le-ltb came 4 h) refl
