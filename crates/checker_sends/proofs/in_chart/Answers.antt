use native.Mathlib.Omega.{arith}
use mathlib.Core.Path.{sym}
use Rattle.sheet_types.proofs.Table.{before-chart, after_first}
use Rattle.checker_sends.proofs.in_chart.Goals as goal

pub returns-then-e-c : goal.returns-then-e-c
returns-then-e-c c = before-chart _ _ c.if-e-c.true

pub returns : goal.returns
returns c = sym (after_first _ _ (omega arith))
