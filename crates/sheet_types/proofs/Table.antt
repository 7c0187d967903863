-- Laws of a chart's internal reactions by name.
use Prim.Native.Nat.{ℕ, ◌+◌, ◌≤◌, ◌<◌}
use mathlib.Core.Path.{◌≡◌, sym, ap}
use mathlib.Core.List.{List}
use mathlib.Core.Bool.{Bool, true, false, not}
use native.Mathlib.Omega.{arith}
use native.Mathlib.Decide.{dec_lt}
use lib.Dec.{leb}
use borrow.Author.Tests.{lt-ltb, le-ltb}
use Rattle.sheet.specs.declared.Record.{Record}
use Rattle.sheet.specs.All.{all_below}
use Rattle.sheet.specs.Sheet.{count_of, record_of}
use Rattle.sheet.proofs.All.{true_false, true-and, false-and, all_fails_lem}
use Rattle.sheet.proofs.Sheet.{count_limit, record_absent}
use Rattle.sheet_rules.specs.Fields.{holds}
use Rattle.sheet_rules.proofs.Fields.{holds_absent}
use Rattle.sheet_rules.specs.Types.{reacts_to, has_class, has_reaction}
use Rattle.sheet_types.specs.Table.{tabled}

-- a name of a class is there, so it has a place in a table
pub class-small : (s : List ℕ) (n k : ℕ) → has_class s n k ≡ true → n < 4096
unfolding has_class
class-small s n k h = elim (dec_lt n (count_of s 3)) [
  | yes l ↦ omega (arith, count_limit s 3)
  | no l ↦ absurd (true_false h (holds_absent _ _ (record_absent s 3 n (omega arith))))
]

module _ (c : Record) (e : ℕ) where
  pub before-chart : e ≤ c.f4 → false ≡ tabled c e
  unfolding tabled
  before-chart h = sym (false-and _ _ (le-ltb _ _ h))

  pub after_first : c.f4 < e → tabled c e ≡ leb e (c.f4 + c.f5)
  unfolding tabled
  after_first h = true-and _ _ (lt-ltb _ _ h)

-- body j of a chart is no internal reaction to name n
abbrev pub no_reaction : List ℕ → ℕ → ℕ → ℕ → Bool
no_reaction s first n j = not (holds (record_of s 5 (first + j)) (reacts_to n))

pub reaction_found : (s : List ℕ) (c : Record) (n j : ℕ) → j < c.f5 → holds (record_of s 5 (c.f4 + j)) (reacts_to n) ≡ true → true ≡ has_reaction s c n
unfolding has_reaction
reaction_found s c n j l h = sym (ap not (all_fails_lem c.f5 (no_reaction s c.f4 n) j l (ap not h)))

pub reaction_none : (s : List ℕ) (c : Record) (n : ℕ) → all_below c.f5 (no_reaction s c.f4 n) ≡ true → false ≡ has_reaction s c n
unfolding has_reaction
reaction_none s c n h = sym (ap not h)
