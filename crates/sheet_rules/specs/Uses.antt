-- "Each node is used exactly once, as operand, root or binding constant."
use Rattle.std.specs.Prelude.{ℕ, zero, suc, ◌+◌, List, Bool, true, false, ltb, eqb, Option, Some, None}
use Rattle.sheet.specs.declared.Record.{Record}
use Rattle.sheet.specs.All.{all_below}
use Rattle.sheet.specs.Names.{charts, bodies, nodes, bindings, chart_parameters, chart_bodies, root, operator}
use Rattle.sheet.specs.Sheet.{count_of, record_of}
use Rattle.sheet_rules.specs.Fields.{holds, number_or0, one_if, sum_below, count_below}
use Rattle.sheet_rules.specs.Forms.{operands_of, operand_count, operand_at}
use Rattle.sheet_rules.specs.Bindings.{chart_bound, first_binding, elements_bound_in, constant_binding, constant_of}

-- "Operand nodes have lower numbers": a field that names another node names no operand
unfoldable pub lower_only : ℕ → (ℕ → ℕ) → ℕ → ℕ
lower_only m f o = elim (ltb o m) [ true ↦ f o | false ↦ 0 ]

-- ---- the bodies that a node lies in

-- how often node n stands in the tree of node m, a node of chart c
module _ (s : List ℕ) (c : Record) (n : ℕ) where
  unfoldable pub stands_step : (ℕ → ℕ) → ℕ → ℕ
  stands_step f m = one_if (eqb m n) + number_or0 (record_of s nodes m) (λ r. sum_below (operand_count (operands_of s c r)) (λ j. f (operand_at r (operands_of s c r) j)))

  unfoldable pub stands_f : ℕ → ℕ → ℕ
  stands_f zero m = 0
  stands_f (suc k) m = stands_step (lower_only m (stands_f k)) m

  unfoldable pub stands_in : ℕ → ℕ
  stands_in m = stands_f (suc m) m

-- a number for each body of chart c, together
unfoldable pub over_bodies : List ℕ → (Record → ℕ) → Record → ℕ
over_bodies s f c = sum_below (chart_bodies c).count (λ j. number_or0 (record_of s bodies ((chart_bodies c).first + j)) f)

-- for each chart
unfoldable pub over_charts : List ℕ → (Record → ℕ) → ℕ
over_charts s f = sum_below (count_of s charts) (λ k. number_or0 (record_of s charts k) f)

-- for each element that the section binds, by the number of its first record
abbrev pub over_bindings : List ℕ → (ℕ → ℕ) → ℕ
over_bindings s f = sum_below (elements_bound_in s) (λ i. f (first_binding s i))

-- how often node n stands in the bodies of chart c
unfoldable pub stands_in_bodies : List ℕ → ℕ → Record → ℕ
stands_in_bodies s n c = over_bodies s (λ b. stands_in s c n (root b)) c

-- A node's home is "the chart that its body belongs to", as 1 + the number of the chart with a body that node n lies in; 0 where it lies in none. Where there are more of them, the last below k
unfoldable pub home_below : List ℕ → ℕ → ℕ → ℕ
home_below s n zero = 0
home_below s n (suc k) = elim (ltb 0 (number_or0 (record_of s charts k) (stands_in_bodies s n))) [ true ↦ suc k | false ↦ home_below s n k ]

unfoldable pub home_of : List ℕ → ℕ → ℕ
home_of s n = home_below s n (count_of s charts)

-- a chart without bodies: a call has no operands in it
abbrev pub no_chart : Record
no_chart = record { f0 = 0; f1 = 0; f2 = 0; f3 = 0; f4 = 0; f5 = 0; f6 = 0; f7 = 0 }

unfoldable pub chart_or : Record → Option Record → Record
chart_or d (Some c) = c
chart_or d None = d

unfoldable pub home_chart : List ℕ → ℕ → Record
home_chart s zero = no_chart
home_chart s (suc k) = chart_or no_chart (record_of s charts k)

-- ---- how often a node is used: how many fields name it

-- fields for operands of node m, a node of chart c
unfoldable pub operand_fields : List ℕ → Record → ℕ → ℕ → ℕ
operand_fields s c m n = number_or0 (record_of s nodes m) (λ r. count_below (operand_count (operands_of s c r)) (λ j. eqb (operand_at r (operands_of s c r) j) n))

unfoldable pub operand_uses : List ℕ → Record → ℕ → ℕ → ℕ
operand_uses s c m n = lower_only m (operand_fields s c m) n

-- roots of the bodies of chart c
unfoldable pub root_uses : List ℕ → ℕ → Record → ℕ
root_uses s n c = over_bodies s (λ b. one_if (eqb (root b) n)) c

-- constants of the element whose first binding record is k
unfoldable pub constant_uses : List ℕ → ℕ → ℕ → ℕ
constant_uses s n k = number_or0 (chart_bound s k) (λ c. count_below (chart_parameters c).count (λ j. holds (constant_binding s k j) (λ b. eqb (constant_of b j) n)))

unfoldable pub uses_of : List ℕ → ℕ → ℕ
uses_of s n =
    over_charts s (root_uses s n)
    + over_bindings s (constant_uses s n)
    + sum_below (count_of s nodes) (λ m. operand_uses s (home_chart s (home_of s m)) m n)

unfoldable pub used_once : List ℕ → Bool
used_once s = all_below (count_of s nodes) (λ n. eqb (uses_of s n) 1)

-- ---- what a test with a mark for each node tells

-- "0, 1 or 2, for a node used never, once or more often"
unfoldable pub mark_of : ℕ → ℕ
mark_of zero = 0
mark_of (suc zero) = 1
mark_of (suc (suc n)) = 2

-- how many bodies node n lies in
unfoldable pub bodies_holding : List ℕ → ℕ → ℕ
bodies_holding s n = over_charts s (λ c. over_bodies s (λ b. one_if (ltb 0 (stands_in s c n (root b)))) c)

-- operator 40
abbrev pub is_call : Record → Bool
is_call r = eqb (operator r) 40

-- "each call of which lies in exactly one body"
unfoldable pub calls_in_one_body : List ℕ → Bool
calls_in_one_body s = all_below (count_of s nodes) (λ m. holds (record_of s nodes m) (λ r. elim (is_call r) [ true ↦ eqb (bodies_holding s m) 1 | false ↦ true ]))

-- "records gone over": a record counts each time that the test takes it from its section to mark the nodes that its fields name: a body for its root, by the chart that it belongs to; a node for its operands; a binding record for its constants. The look-up of a name, a chart or a called body doesn't count
unfoldable pub gone_over : List ℕ → ℕ
gone_over s = over_charts s (over_bodies s (λ b. 1)) + count_of s nodes + count_of s bindings
