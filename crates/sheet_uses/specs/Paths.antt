-- "The same sheets pass and the same ones get 1" (M-102). Until then uses were counted along paths: a node below one that is used twice counts twice. What is compared is that way of counting with today's, in the same list of rules.
-- Moved since: with M-105 an element's constants stand in one record or two (`chart_bound`, `constant_binding`, `over_bindings`); the count along paths goes by today's bindings too, so that nothing is said here of sheets as they were judged before M-105.
use Rattle.std.specs.Prelude.{ℕ, ◌+◌, ◌≡◌, List, Bool, eqb}
use Rattle.sheet.specs.All.{all_below}
use Rattle.sheet.specs.Names.{nodes, chart_parameters}
use Rattle.sheet.specs.Sheet.{count_of}
use Rattle.sheet_rules.specs.Fields.{number_or0, sum_below}
use Rattle.sheet_rules.specs.Bindings.{chart_bound, constant_binding, constant_of}
use Rattle.sheet_rules.specs.Uses.{stands_in, over_charts, over_bindings, stands_in_bodies}
use Rattle.sheet_rules.specs.Check.{shape_with, shape}

-- how often node n stands in the trees of the constants of the element whose first binding record is k
unfoldable pub stands_in_binding : List ℕ → ℕ → ℕ → ℕ
stands_in_binding s n k = number_or0 (chart_bound s k) (λ c. sum_below (chart_parameters c).count (λ j. number_or0 (constant_binding s k j) (λ b. stands_in s c n (constant_of b j))))

unfoldable pub paths_to : List ℕ → ℕ → ℕ
paths_to s n = over_charts s (stands_in_bodies s n) + over_bindings s (stands_in_binding s n)

unfoldable pub one_path : List ℕ → Bool
one_path s = all_below (count_of s nodes) (λ n. eqb (paths_to s n) 1)

-- for every bytes, passed or not
abbrev pub SameSheets : Type 0
SameSheets = (s : List ℕ) → shape_with (one_path s) s ≡ shape s
