use native.Mathlib.Omega.{arith}
use mathlib.Core.Path.{sym, ap, ◌∙◌}
use Rattle.sheet_rules.specs.Indices.{cells_by, cells_taken}
use Rattle.sheet_indices.proofs.Laws.{index_present, index-absent}
use Rattle.sheet_indices.proofs.cells_taken.Goals as goal

pub returns-in_default : goal.returns-in_default
unfolding cells_taken cells_by
returns-in_default c = (sym (ap cells_by (index-absent _ _ (sym c.record.ensures ∙ c.in_default.is))), omega arith)

pub returns : goal.returns
unfolding cells_taken
returns c = (c.cells_by.ensures.0 ∙ sym (ap cells_by (index_present _ _ _ (sym c.record.ensures ∙ c.in-Some.is))), c.cells_by.ensures.1)
