use native.Mathlib.Omega.{arith}
use mathlib.Core.Path.{sym}
use Rattle.sheet_rules.proofs.Bindings.{one_record, two_records}
use Rattle.sheet_bindings.proofs.records_for.Goals as goal

pub returns-then-n-le7 : goal.returns-then-n-le7
returns-then-n-le7 c = (sym (one_record _ c.if-n-le7.true), omega arith)

pub returns : goal.returns
returns c = (sym (two_records _ c.if-n-le7.false), omega arith)
