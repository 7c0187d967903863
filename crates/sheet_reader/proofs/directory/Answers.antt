use native.Mathlib.Omega.{arith}
use Prim.Native.Nat.{ℕ, ◌+◌, ◌*◌, ◌-◌, ◌/◌, ◌<◌}
use mathlib.Core.Path.{◌≡◌, refl, sym, ap, ◌∙◌}
use mathlib.Core.List.{List}
use mathlib.Core.Bool.{true}
use native.Mathlib.Decide.{dec_lt}
use lib.ListN.{length, get_or, set, length-set}
use lib.Seq.{get_or-set_same, get_or-set_other}
use Rattle.sheet.specs.Sheet.{offset_of, length_of, directory_right}
use Rattle.sheet.proofs.Sheet.{directory_wrong, directory_is, directory-inside, count-right}
use Rattle.sheet_reader.proofs.directory.Invariants.{Entries}
use Rattle.sheet_reader.proofs.directory.Goals as goal

-- The loop's invariant: the entries of the sections passed are in place.
entries-more : (s d : List ℕ) (k o c x y : ℕ) → o ≡ 2 * k → c ≡ 2 * k + 1 → directory_right s ≡ true → k < 8 → length d ≡ 16 → Entries s d k → x ≡ offset_of s k → y ≡ length_of s k → Entries s (set (set d o x) c (y / 16)) (k + 1)
entries-more s d k o c x y at₀ at₁ right h l e p q j b = elim (dec_lt j k) [
  | yes lt ↦ (other (2 * j) (λ z. omega arith) (λ z. omega arith) ∙ (e j lt).0, other (2 * j + 1) (λ z. omega arith) (λ z. omega arith) ∙ (e j lt).1)
  | no ge ↦ (let same : j ≡ k = omega arith in rw (same, ← at₁, ← at₀) (
    get_or-set_other (set d o x) c o (y / 16) 0 (λ z. omega arith) ∙ get_or-set_same d o x 0 (omega arith) ∙ p,
    get_or-set_same (set d o x) c (y / 16) 0 (omega (arith, length-set d o x)) ∙ ap (λ n. n / 16) q ∙ sym (count-right s k right h),
  ))
]
  where
    other : (i : ℕ) → (i ≡ o → ⊥) → (i ≡ c → ⊥) → get_or (set (set d o x) c (y / 16)) i 0 ≡ get_or d i 0
    other i u v = get_or-set_other (set d o x) c i (y / 16) 0 v ∙ get_or-set_other d o i x 0 u

pub loop-k-init : goal.loop-k-init
loop-k-init c = (omega arith, directory-inside _ (sym c.directory_right.ensures ∙ c.if-directory_right.true), refl, λ j h. absurd (omega arith))

pub loop-k-preserved : goal.loop-k-preserved
loop-k-preserved c = let directory-right-is = sym c.directory_right.ensures ∙ c.if-directory_right.true in
    let set_here = set c.loop-k.sections c.offset_place-offset.result c.number_at.result in (
      omega arith,
      c.loop-k.invariant.1,
      length-set set_here c.count_place-count.result (c.number_at-in-loop-k.result / 16)
          ∙ length-set c.loop-k.sections c.offset_place-offset.result c.number_at.result
          ∙ c.loop-k.invariant.2,
      entries-more _ c.loop-k.sections c.loop-k.k _ _ c.number_at.result c.number_at-in-loop-k.result c.offset_place-offset.ensures
          c.count_place-count.ensures directory-right-is c.loop-k-test.true c.loop-k.invariant.2 c.loop-k.invariant.3 c.number_at.ensures.0
          c.number_at-in-loop-k.ensures.0,
    )

pub returns-after-loop-k : goal.returns-after-loop-k
returns-after-loop-k c = directory_is _ (sym c.directory_right.ensures ∙ c.if-directory_right.true) _ c.loop-k.invariant.2 (λ k h. c.loop-k.invariant.3 k (omega arith))

pub returns-else-directory_right : goal.returns-else-directory_right
returns-else-directory_right c = sym (directory_wrong _ (sym c.directory_right.ensures ∙ c.if-directory_right.false))
