use mathlib.Core.Path.{sym, ap, ◌∙◌}
use Rattle.sheet_rules.specs.Indices.{is_plain}
use Rattle.sheet_indices.proofs.Laws.{index_present, index-absent, plain_zero}
use Rattle.sheet_indices.proofs.is_plain.Goals as goal

pub returns-in_default : goal.returns-in_default
unfolding is_plain
returns-in_default c = sym (ap is_plain (index-absent _ _ (sym c.record.ensures ∙ c.in_default.is)))

pub returns : goal.returns
returns c = sym (ap is_plain (index_present _ _ _ (sym c.record.ensures ∙ c.in-Some.is)) ∙ plain_zero _ _)
