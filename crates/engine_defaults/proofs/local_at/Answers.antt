use mathlib.Core.Path.{ap, ◌∙◌}
use Rattle.machine.specs.Values.{default_of}
use Rattle.engine_rows.proofs.Laws.{given}
use Rattle.engine_defaults.proofs.Laws.{local_parameter, local_default}
use Rattle.engine_defaults.proofs.local_at.Goals as goal

pub returns-then-i-parameters : goal.returns-then-i-parameters
returns-then-i-parameters c = given _ c.result-1.given ∙ local_parameter c.args.sheet.now.sheet.now c.args.b c.args.d.now _ c.if-i-parameters.true

pub returns : goal.returns
returns c = given c.default_of.result c.default_of.type_inv ∙ c.default_of.ensures ∙ ap (default_of c.args.sheet.now.sheet.now) c.type_at-t.ensures ∙ local_default c.args.sheet.now.sheet.now c.args.b _ _ c.if-i-parameters.false c.requires.1
