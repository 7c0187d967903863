-- A mark that is named some times more: its rest and its quotient by 4.
use Prim.Native.Nat.{ℕ, zero, suc, ◌+◌, ◌*◌, ◌/◌, ◌%◌, ◌≤◌, ◌<◌}
use mathlib.Core.Path.{◌≡◌, refl, sym, ap, ◌∙◌}
use native.Mathlib.Omega.{arith}
use native.Mathlib.Decide.{dec_lt}
use borrow.Author.Tests.{lt-ltb, le-ltb}
use Rattle.sheet_rules.specs.Uses.{mark_of}
use Rattle.checker_pass.specs.Marks.{named, marked, marked_times}

pub named_more : (v : ℕ) → v % 4 < 2 → named v ≡ v + 1
unfolding named
named_more v l = rw (named, lt-ltb (v % 4) 2 l) refl

pub named_same : (v : ℕ) → 2 ≤ v % 4 → named v ≡ v
unfolding named
named_same v l = rw (named, le-ltb (v % 4) 2 l) refl

pub marked_low : (k v : ℕ) → v < 4 → marked k v ≡ named v + 4 * k
unfolding marked
marked_low k v l = rw (marked, lt-ltb v 4 l) refl

pub marked_high : (k v : ℕ) → 4 ≤ v → marked k v ≡ named v
unfolding marked
marked_high k v l = rw (marked, le-ltb v 4 l) refl

-- ---- once

named-rest : (v u : ℕ) → v % 4 ≡ mark_of u → named v % 4 ≡ mark_of (suc u)
unfolding mark_of
named-rest v zero e = omega (arith, named_more v (omega (arith, e)))
named-rest v (suc zero) e = omega (arith, named_more v (omega (arith, e)))
named-rest v (suc (suc u)) e = omega (arith, named_same v (omega (arith, e)))

pub named-quotient : (v : ℕ) → named v / 4 ≡ v / 4
named-quotient v = elim (dec_lt (v % 4) 2) [
  | yes l ↦ omega (arith, named_more v l)
  | no l ↦ omega (arith, named_same v (omega arith))
]

marked-rest : (k v : ℕ) → marked k v % 4 ≡ named v % 4
marked-rest k v = elim (dec_lt v 4) [
  | yes l ↦ omega (arith, marked_low k v l)
  | no l ↦ omega (arith, marked_high k v (omega arith))
]

marked-first : (k v : ℕ) → v / 4 ≡ 0 → marked k v / 4 ≡ k
marked-first k v e = omega (arith, marked_low k v (omega arith), named-quotient v)

marked-kept : (k v h : ℕ) → v / 4 ≡ suc h → marked k v / 4 ≡ suc h
marked-kept k v h e = omega (arith, marked_high k v (omega arith), named-quotient v)

-- ---- some times

module _ (k : ℕ) where
  pub times_add : (a b v : ℕ) → marked_times k (a + b) v ≡ marked_times k b (marked_times k a v)
  unfolding marked_times
  times_add a zero v = ap (λ (x : ℕ). marked_times k x v) (let e : a + zero ≡ a = omega arith in e)
  times_add a (suc b) v = ap (λ (x : ℕ). marked_times k x v) (let e : a + suc b ≡ suc (a + b) = omega arith in e) ∙ ap (marked k) (times_add a b v)

  pub times-rest : (c v u : ℕ) → v % 4 ≡ mark_of u → marked_times k c v % 4 ≡ mark_of (c + u)
  unfolding marked_times
  times-rest zero v u e = e ∙ ap mark_of (let z : u ≡ zero + u = omega arith in z)
  times-rest (suc c) v u e = marked-rest k (marked_times k c v) ∙ named-rest (marked_times k c v) (c + u) (times-rest c v u e) ∙ ap mark_of (let z : suc (c + u) ≡ suc c + u = omega arith in z)

  pub times-kept : (c v h : ℕ) → v / 4 ≡ suc h → marked_times k c v / 4 ≡ suc h
  unfolding marked_times
  times-kept zero v h e = e
  times-kept (suc c) v h e = marked-kept k (marked_times k c v) h (times-kept c v h e)

  -- the first that names it gives its home
  pub times-first : (c v : ℕ) → v / 4 ≡ 0 → marked_times k (suc c) v / 4 ≡ k
  unfolding marked_times
  times-first zero v e = marked-first k v e
  times-first (suc c) v e = go (times-first c v e) (marked_times k (suc c) v / 4) refl
    where
      go : marked_times k (suc c) v / 4 ≡ k → (q : ℕ) → marked_times k (suc c) v / 4 ≡ q → marked k (marked_times k (suc c) v) / 4 ≡ k
      go before zero z = marked-first k (marked_times k (suc c) v) z
      go before (suc h) z = marked-kept k (marked_times k (suc c) v) h z ∙ sym z ∙ before

pub mark_two : (u : ℕ) → mark_of u ≤ 2
unfolding mark_of
mark_two zero = omega arith
mark_two (suc zero) = omega arith
mark_two (suc (suc u)) = omega arith

pub mark_one : (u : ℕ) → mark_of u ≡ 1 → u ≡ 1
unfolding mark_of
mark_one zero e = absurd (omega (arith, e))
mark_one (suc zero) e = refl
mark_one (suc (suc u)) e = absurd (omega (arith, e))

-- a rest of at most 2 is a mark
pub as_mark : (v : ℕ) → v ≤ 2 → v ≡ mark_of v
unfolding mark_of
as_mark zero l = refl
as_mark (suc zero) l = refl
as_mark (suc (suc zero)) l = refl
as_mark (suc (suc (suc v))) l = absurd (omega arith)
