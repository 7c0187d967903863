use mathlib.Core.Path.{sym, ◌∙◌}
use Rattle.sheet.proofs.All.{first_fails_lem, rest_fails, first_holds}
use Rattle.sheet_rules.specs.Shape.{declaration_shape}
use Rattle.checker_declarations.proofs.declaration_fits.Goals as goal

pub returns-then-not-type_exists : goal.returns-then-not-type_exists
unfolding declaration_shape
returns-then-not-type_exists c = first_fails_lem _ _ (sym c.type_exists.ensures ∙ c.if-not-type_exists.true)

pub returns-then-not-index_exists : goal.returns-then-not-index_exists
unfolding declaration_shape
returns-then-not-index_exists c = rest_fails _ _ (first_fails_lem _ _ (sym c.index_exists.ensures ∙ c.if-not-index_exists.true))

pub returns : goal.returns
unfolding declaration_shape
returns c = first_holds _ _ _ (sym c.type_exists.ensures ∙ c.if-not-type_exists.false) (first_holds _ _ _ (sym c.index_exists.ensures ∙ c.if-not-index_exists.false) c.zero_from.ensures)
