use native.Mathlib.Omega.{arith}
use mathlib.Core.Path.{sym, ◌∙◌}
use borrow.Author.Rules.{rules}
use Rattle.sheet_types.proofs.Laws.{parameters-present, parameters_absent}
use Rattle.sheet_types.proofs.called_range.Goals as goal

pub returns-in_default : goal.returns-in_default
returns-in_default c = (parameters_absent _ (sym c.called_body.ensures ∙ c.in_default.is), omega arith, omega arith)

pub returns : goal.returns
returns c = (parameters-present _ _ (sym c.called_body.ensures ∙ c.in-Some.is), search rules, search rules)
