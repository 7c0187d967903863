use mathlib.Core.Path.{sym, ◌∙◌}
use Rattle.sheet_rules.proofs.Fields.{holds-present, holds_absent}
use Rattle.sheet_rules.specs.Types.{has_class}
use Rattle.sheet_types.proofs.has_class.Goals as goal

pub returns-in_default : goal.returns-in_default
unfolding has_class
returns-in_default c = sym (holds_absent _ _ (sym c.record.ensures ∙ c.in_default.is))

pub returns : goal.returns
unfolding has_class
returns c = sym (holds-present _ _ _ (sym c.record.ensures ∙ c.in-Some.is))
