use mathlib.Core.Path.{ap, ◌∙◌}
use Rattle.machine.specs.Values.{is_below}
use Rattle.engine_valid_words.proofs.Laws.{back}
use Rattle.engine_valid_values.proofs.Laws.{no_value, of_member}
use Rattle.engine_valid_values.proofs.is_member.Goals as goal

pub returns-then-t-lt8 : goal.returns-then-t-lt8
returns-then-t-lt8 c = no_value _ _ _ c.requires c.if-t-lt8.true

pub returns : goal.returns
returns c = (rw (back c.ranges.z) at c.is_below.ensures) ∙ ap (is_below c.args.z) c.members.ensures.0 ∙ of_member _ _ _ c.if-t-lt8.false
