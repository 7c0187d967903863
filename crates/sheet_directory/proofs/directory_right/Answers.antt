use native.Mathlib.Omega.{arith}
use Prim.Native.Nat.{ℕ, ◌+◌, ◌%◌, ◌<◌, ◌≤◌}
use mathlib.Core.Path.{◌≡◌, refl, sym, ap, ◌∙◌}
use mathlib.Core.List.{List}
use mathlib.Core.Bool.{true, false}
use lib.ListN.{length}
use lib.Dec.{eqb}
use native.Mathlib.Numerals.{add-one}
use borrow.Author.Tests.{lt-leb, le-leb, eq-eqb, ne_eqb}
use Rattle.sheet.specs.All.{all_below}
use Rattle.sheet.specs.Sheet.{offset_of, length_of, start_of, pair_right, directory_right}
use Rattle.sheet.proofs.All.{false-and, and-false, and-true, true-and, all_more, all_fails_lem}
use Rattle.sheet.proofs.Sheet.{too_short}
use Rattle.sheet_directory.proofs.directory_right.Goals as goal

too_long : (s : List ℕ) → 65535 < length s → false ≡ directory_right s
unfolding directory_right
too_long s h = sym (false-and _ _ (lt-leb _ _ h))

module _ (s : List ℕ) (k start : ℕ) (at : start ≡ start_of s k) where
  offset-wrong : k < 8 → (x : ℕ) → x ≡ offset_of s k → (x ≡ start → ⊥) → false ≡ directory_right s
  unfolding directory_right pair_right
  offset-wrong h x e n = sym (and-false _ _ (false-and _ _ (all_fails_lem 8 (pair_right s) k h (false-and _ _ (ne_eqb _ _ (λ q. n (e ∙ q ∙ sym at)))))))

  length-wrong : k < 8 → (x : ℕ) → x ≡ length_of s k → (x % 16 ≡ 0 → ⊥) → false ≡ directory_right s
  unfolding directory_right pair_right
  length-wrong h x e n = sym (and-false _ _ (false-and _ _ (all_fails_lem 8 (pair_right s) k h (and-false _ _ (ne_eqb _ _ (λ q. n (ap (λ y. y % 16) e ∙ q)))))))

  one_more : (x y : ℕ) → x ≡ offset_of s k → y ≡ length_of s k → x ≡ start → y % 16 ≡ 0 → all_below k (pair_right s) ≡ true → (x + y ≡ start_of s (k + 1)) × (all_below (k + 1) (pair_right s) ≡ true)
  unfolding start_of pair_right
  one_more x y e f same whole h = (rw (add-one, e, f) refl, all_more k (pair_right s) h (and-true _ _ (eq-eqb _ _ (sym e ∙ same ∙ at)) (eq-eqb _ _ (ap (λ z. z % 16) (sym f) ∙ whole))))

  ended : k ≡ 8 → length s ≤ 65535 → all_below k (pair_right s) ≡ true → eqb start (length s) ≡ directory_right s
  unfolding directory_right
  ended e l h = rw at (rw e (sym (true-and _ _ (le-leb _ _ l) ∙ true-and _ _ (rw e at h))))

pub returns-then-sheet-gt65535 : goal.returns-then-sheet-gt65535
returns-then-sheet-gt65535 c = too_long _ c.if-sheet-gt65535.true

pub returns-then-sheet-lt32 : goal.returns-then-sheet-lt32
returns-then-sheet-lt32 c = sym (too_short _ c.if-sheet-lt32.true)

pub loop-k-init : goal.loop-k-init
unfolding start_of all_below
loop-k-init c = (omega arith, refl, refl)

pub returns-then-offset-start : goal.returns-then-offset-start
returns-then-offset-start c = offset-wrong _ _ _ c.loop-k.invariant.1 (omega arith) _ c.number_at-offset.ensures.0 c.if-offset-start.true

pub returns-then-size-ne0 : goal.returns-then-size-ne0
returns-then-size-ne0 c = length-wrong _ _ _ c.loop-k.invariant.1 (omega arith) _ c.number_at-size.ensures.0 c.if-size-ne0.true

pub loop-k-preserved : goal.loop-k-preserved
loop-k-preserved c = let one-more-here = one_more _ _ _ c.loop-k.invariant.1 _ _ c.number_at-offset.ensures.0 c.number_at-size.ensures.0 c.if-offset-start.false c.if-size-ne0.false c.loop-k.invariant.2 in
    (omega arith, one-more-here.0, one-more-here.1)

pub returns : goal.returns
returns c = ended _ _ _ c.loop-k.invariant.1 (omega arith) (omega arith) c.loop-k.invariant.2
