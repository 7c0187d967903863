-- What a table says of the numbers of one line, and of all.
use Prim.Native.Nat.{ℕ, zero, suc, ◌<◌, ◌≤◌}
use mathlib.Core.Path.{◌≡◌, refl, ap, ◌∙◌}
use mathlib.Core.List.{List, [], ◌∷◌}
use mathlib.Core.Bool.{Bool, true, false, ◌&&◌}
use native.Mathlib.Omega.{arith}
use native.Mathlib.Decide.{dec_lt}
use lib.ListN.{drop}
use lib.Dec.{T, ltb, leb, leb→le}
use borrow.Author.Tests.{lt-ltb, le-ltb, lt-leb}
use Rattle.sheet.specs.Table.{Line, look_up}

-- a number from n on that isn't n
pub beyond : {n k : ℕ} → n ≤ k → (k ≡ n → ⊥) → suc n ≤ k
beyond h d = omega arith

both : (a b : Bool) → T (a && b) → T a × T b
both true b q = (tt, q)
both false b q = absurd q

-- the first k lines of a table are for numbers below m
abbrev pub lines_below : {A : Type 0} → ℕ → List (Line A) → ℕ → Bool
lines_below zero ls m = true
lines_below (suc k) [] m = true
lines_below (suc k) (l ∷ ls) m = leb l.below m && lines_below k ls m

module _ {A : Type 0} (past : A) where
  line_past : (l : Line A) (ls : List (Line A)) (n : ℕ) → l.below ≤ n → look_up (l ∷ ls) past n ≡ look_up ls past n
  unfolding look_up
  line_past l ls n h = rw (look_up, le-ltb n l.below h) refl

  line_here : (l : Line A) (ls : List (Line A)) (n : ℕ) → n < l.below → look_up (l ∷ ls) past n ≡ l.means
  unfolding look_up
  line_here l ls n h = rw (look_up, lt-ltb n l.below h) refl

  pub lines_past : (k : ℕ) (ls : List (Line A)) (m n : ℕ) → T (lines_below k ls m) → m ≤ n → look_up ls past n ≡ look_up (drop k ls) past n
  lines_past zero ls m n q h = refl
  lines_past (suc k) [] m n q h = refl
  lines_past (suc k) (l ∷ ls) m n q h =
      let parts = both (leb l.below m) (lines_below k ls m) q in
      line_past l ls n (omega (arith, leb→le l.below m parts.0)) ∙ lines_past k ls m n parts.1 h

  -- a number from m on, below the bound of the line that follows the first k
  pub line_at : (t : List (Line A)) (k m n : ℕ) (l : Line A) (ls : List (Line A)) → drop k t ≡ l ∷ ls → T (lines_below k t m) → m ≤ n → n < l.below → look_up t past n ≡ l.means
  line_at t k m n l ls e q h i = lines_past k t m n q h ∙ ap (λ t. look_up t past n) e ∙ line_here l ls n i

  -- a test that what every line means meets, and what is past them
  unfoldable pub all_meet_lem : (A → Bool) → List (Line A) → Bool
  all_meet_lem p [] = p past
  all_meet_lem p (l ∷ ls) = p l.means && all_meet_lem p ls

  pub all_meet : (p : A → Bool) (t : List (Line A)) (n : ℕ) → T (all_meet_lem p t) → T (p (look_up t past n))
  unfolding all_meet_lem look_up
  all_meet p [] n q = q
  all_meet p (l ∷ ls) n q = go (all_meet p ls n) (ltb n l.below) (both (p l.means) (all_meet_lem p ls) q)
    where
      go : (T (all_meet_lem p ls) → T (p (look_up ls past n))) → (t : Bool) → T (p l.means) × T (all_meet_lem p ls) → T (p (elim t [ true ↦ l.means | false ↦ look_up ls past n ]))
      go later true h = h.0
      go later false h = later h.1

  -- the same of the lines that numbers below b can be on
  unfoldable pub all_meet_below : (A → Bool) → ℕ → List (Line A) → Bool
  all_meet_below p b [] = p past
  all_meet_below p b (l ∷ ls) = p l.means && elim (leb b l.below) [ true ↦ true | false ↦ all_meet_below p b ls ]

  pub all_meet_below_lem : (p : A → Bool) (b : ℕ) (t : List (Line A)) (n : ℕ) → T (all_meet_below p b t) → n < b → T (p (look_up t past n))
  unfolding all_meet_below look_up
  all_meet_below_lem p b [] n q h = q
  all_meet_below_lem p b (l ∷ ls) n q h = elim (dec_lt n l.below) [
    | yes k ↦ rw (line_here l ls n k) parts.0
    | no k ↦ rw (line_past l ls n (omega arith)) (all_meet_below_lem p b ls n (rw (lt-leb b l.below (omega arith)) at parts.1) h)
  ]
    where
      parts : T (p l.means) × T (elim (leb b l.below) [ true ↦ true | false ↦ all_meet_below p b ls ])
      parts = both (p l.means) _ q
