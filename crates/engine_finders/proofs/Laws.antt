-- A search of a chart's bodies, one after another.
use Prim.Native.Nat.{ℕ, zero, suc, ◌+◌, ◌-◌, ◌<◌}
use mathlib.Core.Path.{◌≡◌, refl, ap, ◌∙◌}
use mathlib.Core.List.{List}
use mathlib.Core.Bool.{Bool, true, false}
use native.Mathlib.Decide.{dec_lt}
use native.Mathlib.Omega.{arith}
use borrow.Author.Tests.{lt-ltb, le-ltb}
use Rattle.sheet.specs.declared.Record.{Record}
use Rattle.sheet.specs.Names.{bodies, chart_bodies}
use Rattle.sheet.specs.Sheet.{record_of}
use Rattle.sheet_rules.specs.Fields.{holds}
use Rattle.machine.specs.Play.{body_from, body_where}
use Rattle.machine_passed.specs.Places.{StandsAt}
use Rattle.engine_finders.specs.Bodies.{FirstAt}

module _ (s : List ℕ) (p : Record → Bool) where
  -- of `left` bodies from number first on the first meets the test, or doesn't
  hit : (left first : ℕ) → holds (record_of s bodies first) p ≡ true → body_from s p (suc left) first ≡ record_of s bodies first
  unfolding body_from
  hit left first q = rw (body_from, q) refl

  miss : (left first : ℕ) → holds (record_of s bodies first) p ≡ false → body_from s p (suc left) first ≡ body_from s p left (suc first)
  unfolding body_from
  miss left first q = rw (body_from, q) refl

  -- those before number j don't meet the test
  passed : (j left first : ℕ) → ((i : ℕ) → i < j → holds (record_of s bodies (first + i)) p ≡ false) → body_from s p (j + left) first ≡ body_from s p left (first + j)
  passed zero left first none = let e : 0 + left ≡ left = omega arith in let f : first + 0 ≡ first = omega arith in rw (e, f) refl
  passed (suc j) left first none =
      let e : suc j + left ≡ suc (j + left) = omega arith in
      let f : first + suc j ≡ suc first + j = omega arith in
      let g : first + 0 ≡ first = omega arith in
      rw (e, f) (miss (j + left) first (rw g at (none 0 (omega arith))) ∙ passed j left (suc first) (λ i l. (let h : suc first + i ≡ first + suc i = omega arith in rw h (none (suc i) (omega arith)))))

pub stands : (s : List ℕ) (c : Record) (p : Record → Bool) (j : ℕ) → FirstAt s c p j → StandsAt s c p j
unfolding body_where body_from
stands s c p j h =
    let first = (chart_bodies c).first in
    let count = (chart_bodies c).count in
    record {
      within = h.within;
      there = elim (dec_lt j count) [
        | yes l ↦ (let left = count - (j + 1) in let e : count ≡ j + suc left = omega arith in rw (lt-ltb j count l) (ap (λ n. body_from s p n first) e ∙ passed s p j (suc left) first h.before ∙ hit s p left (first + j) (h.here l)))
        | no l ↦ (let w = h.within in let e : count ≡ j + 0 = omega arith in rw (le-ltb j count (omega arith)) (ap (λ n. body_from s p n first) e ∙ passed s p j 0 first h.before))
      ];
    }
