use mathlib.Core.Path.{◌∙◌}
use Rattle.sheet_types.proofs.Laws.{called_past, called-there}
use Rattle.sheet_types.proofs.called_body.Goals as goal

pub returns-then-c-r : goal.returns-then-c-r
returns-then-c-r c = called_past _ _ _ c.if-c-r.true

pub returns : goal.returns
returns c = c.record.ensures ∙ called-there _ _ _ c.if-c-r.false
