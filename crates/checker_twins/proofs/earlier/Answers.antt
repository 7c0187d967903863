use native.Mathlib.Omega.{arith}
use mathlib.Core.Path.{sym}
use Rattle.checker_reactions.proofs.Entries.{up_past, up_in}
use Rattle.checker_twins.proofs.earlier.Goals as goal

pub returns-then-i-e : goal.returns-then-i-e
returns-then-i-e c = (sym (up_past _ _ c.if-i-e.true), omega arith)

pub returns : goal.returns
returns c = (sym (up_in _ _ c.if-i-e.false), omega arith)
