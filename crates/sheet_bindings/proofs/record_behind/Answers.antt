use native.Mathlib.Omega.{arith}
use mathlib.Core.Path.{sym, ap, ◌∙◌}
use Prim.Native.Nat.{ℕ, ◌+◌}
use Rattle.sheet_rules.proofs.Bindings.{behind-chart, behind-none}
use Rattle.sheet_bindings.proofs.record_behind.Goals as goal

pub returns-in_default : goal.returns-in_default
returns-in_default c = (sym (behind-none _ _ (sym c.chart_bound.ensures ∙ c.in_default.is)), omega arith)

pub returns : goal.returns
returns c = (ap (λ (n : ℕ). c.args.k + n) c.records_for.ensures.0 ∙ sym (behind-chart _ _ _ (sym c.chart_bound.ensures ∙ c.in-Some.is)), omega (arith, c.records_for.ensures.1))
