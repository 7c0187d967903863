use mathlib.Core.Path.{sym, ap, ◌∙◌}
use lib.Dec.{eqb}
use Rattle.sheet_rules.proofs.Fields.{holds-present, holds_absent}
use Rattle.sheet_rules.specs.Static.{constant_static}
use Rattle.checker_constants.proofs.constant_static.Goals as goal

pub returns-in_default : goal.returns-in_default
unfolding constant_static
returns-in_default c = sym (holds_absent _ _ (sym c.record.ensures ∙ c.in_default.is))

pub returns : goal.returns
unfolding constant_static
returns c = ap (λ x. eqb x c.args.t) c.literal_type.ensures ∙ sym (holds-present _ _ _ (sym c.record.ensures ∙ c.in-Some.is))
