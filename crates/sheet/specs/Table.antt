-- Tables of the paper: what its numbers stand for.
use Rattle.std.specs.Prelude.{ℕ, suc, List, [], ◌∷◌, true, false, ltb}

pub record Line (A : Type 0) : Type 0 where
  pub below : ℕ
  pub means : A

abbrev pub up_to : {A : Type 0} → ℕ → A → Line A
up_to n a = record { below = suc n; means = a }

-- what the first line that a number is not above means; or what numbers past the last line mean
unfoldable pub look_up : {A : Type 0} → List (Line A) → A → ℕ → A
look_up [] past n = past
look_up (l ∷ ls) past n = elim (ltb n l.below) [ true ↦ l.means | false ↦ look_up ls past n ]
