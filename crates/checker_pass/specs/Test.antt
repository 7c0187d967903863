-- What the test promises that each node is used exactly once.
use Rattle.std.specs.Prelude.{ℕ, ◌+◌, ◌≤◌, ◌<◌, ◌≡◌, List, true, length, get_or, Result, Ok, Err}
use Rattle.sheet.specs.Names.{bodies, nodes, bindings}
use Rattle.sheet.specs.Sheet.{count_of}
use Rattle.sheet_rules.specs.Uses.{uses_of, used_once, mark_of, calls_in_one_body, gone_over}
use Rattle.sheet_rules.specs.Check.{otherwise_in_shape}
use Rattle.checker_pass.specs.declared.Tested.{Tested}
use Rattle.checker_pass.specs.declared.Unmarked.{Unmarked}
use Rattle.checker_pass.specs.declared.Unmarked.TheVariants.{TooFew}

-- for a sheet and the marks that were lent, before and after
pub record TestGives (s before after : List ℕ) (t : Tested) : Type 0 where
  -- for every bytes
  pub once : t.once ≡ used_once s
  pub gone : t.records ≡ gone_over s
  -- "its count of records gone over is the number in sections 5 to 7"
  pub all : otherwise_in_shape s ≡ true → t.records ≡ count_of s bodies + count_of s nodes + count_of s bindings
  -- "its marks end as 0, 1 or 2, for a node used never, once or more often"
  pub marks : calls_in_one_body s ≡ true → (n : ℕ) → n < count_of s nodes → get_or after n 0 ≡ mark_of (uses_of s n)
  -- on every sheet a mark is one of the three, and past the last node nothing is written
  pub small : (n : ℕ) → n < count_of s nodes → get_or after n 0 ≤ 2
  pub rest : (n : ℕ) → count_of s nodes ≤ n → get_or after n 0 ≡ get_or before n 0
  pub long : length after ≡ length before

-- for any bytes and any lent marks: one for each node is enough; with fewer nothing is written
abbrev pub MarkingGives : List ℕ → List ℕ → List ℕ → Result Tested Unmarked → Type 0
MarkingGives s before after (Ok t) = (count_of s nodes ≤ length before) × TestGives s before after t
MarkingGives s before after (Err TooFew) = (length before < count_of s nodes) × (after ≡ before)
