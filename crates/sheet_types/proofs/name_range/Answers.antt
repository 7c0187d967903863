use native.Mathlib.Omega.{arith}
use mathlib.Core.Path.{sym, ◌∙◌}
use borrow.Author.Rules.{rules}
use Rattle.sheet_types.proofs.Laws.{range-present, range_absent}
use Rattle.sheet_types.proofs.name_range.Goals as goal

pub returns-in_default : goal.returns-in_default
returns-in_default c = (range_absent _ _ (sym c.record.ensures ∙ c.in_default.is), omega arith, omega arith)

pub returns : goal.returns
returns c = (range-present _ _ _ (sym c.record.ensures ∙ c.in-Some.is), search rules, search rules)
