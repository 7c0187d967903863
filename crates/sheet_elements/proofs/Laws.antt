-- Cells added up, and the cells of an element.
use Rattle.std.specs.Prelude.{Some, None}
use Prim.Native.Nat.{ℕ, ◌+◌}
use mathlib.Core.Path.{◌≡◌, sym, ap, ◌∙◌}
use mathlib.Core.List.{List}
use Rattle.sheet.specs.declared.Record.{Record}
use Rattle.sheet_rules.specs.Fields.{sum_below}
use Rattle.sheet_rules.specs.Indices.{cells_before}
use Rattle.sheet_rules.specs.Bindings.{chart_bound, first_binding}
use Rattle.sheet_rules.specs.Shape.{cells_bound}
use Rattle.sheet_rules.proofs.Fields.{sum_more, number-present, number_absent}

-- one variable or element more
pub sum_next : (f : ℕ → ℕ) (i sum x : ℕ) → sum ≡ sum_below i f → x ≡ f i → sum + x ≡ sum_below (i + 1) f
sum_next f i sum x p q = rw (p, q) (sym (sum_more i f))

-- the cells of element i, whose first binding record is k
module _ (s : List ℕ) (k i : ℕ) (at : k ≡ first_binding s i) where
  pub no_chart_lem : chart_bound s k ≡ None → 0 ≡ cells_bound s i
  unfolding cells_bound
  no_chart_lem e = sym (number_absent _ _ (ap (chart_bound s) (sym at) ∙ e))

  pub chart-cells : (c : Record) → chart_bound s k ≡ Some c → cells_before s c c.f3 ≡ cells_bound s i
  unfolding cells_bound
  chart-cells c e = sym (number-present _ _ _ (ap (chart_bound s) (sym at) ∙ e))
