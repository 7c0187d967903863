use mathlib.Core.Path.{ap}
use lib.Dec.{leb}
use Rattle.sheet_rules.specs.Fields.{in_section}
use Rattle.sheet_fields.proofs.in_section.Goals as goal

pub returns : goal.returns
unfolding in_section
returns c = ap (leb _) c.count.ensures
