use mathlib.Core.Path.{sym, ◌∙◌}
use Rattle.sheet_rules.proofs.Fields.{holds-present, holds_absent}
use Rattle.sheet_rules.specs.Shape.{send_shape}
use Rattle.checker_nodes.proofs.send_fits.Goals as goal

pub returns-in_default : goal.returns-in_default
unfolding send_shape
returns-in_default c = sym (holds_absent _ _ (sym c.record.ensures ∙ c.in_default.is))

pub returns : goal.returns
unfolding send_shape
returns c = c.zero_from.ensures ∙ sym (holds-present _ _ _ (sym c.record.ensures ∙ c.in-Some.is))
