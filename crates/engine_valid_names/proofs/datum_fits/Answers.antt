use mathlib.Core.Path.{sym, ◌∙◌}
use Rattle.engine_valid_names.proofs.Laws.{datum-typed, datum_absent, datum_surplus}
use Rattle.engine_valid_names.proofs.datum_fits.Goals as goal

pub returns-in_default : goal.returns-in_default
returns-in_default c = datum_absent _ _ _ _ c.if-j-g.true (sym c.record.ensures ∙ c.in_default.is)

pub returns-then-j-g : goal.returns-then-j-g
returns-then-j-g c = datum-typed _ _ _ _ _ _ c.if-j-g.true (sym c.record.ensures ∙ c.in-Some.is) c.value_at.ensures

pub returns : goal.returns
returns c = datum_surplus _ _ _ _ _ c.if-j-g.false c.zero_at.ensures
