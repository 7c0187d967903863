use mathlib.Core.Path.{sym, ap, ◌∙◌}
use Rattle.machine.specs.Values.{is_below}
use Rattle.engine_valid_words.proofs.Laws.{back, fits_32}
use Rattle.engine_valid_values.proofs.Laws.{of_bool, of_int_lem, of_component, of_port}
use Rattle.engine_valid_values.proofs.in_type.Goals as goal

pub returns-in-0 : goal.returns-in-0
returns-in-0 c = (rw (back c.ranges.z) at c.is_below.ensures) ∙ of_bool _ _ _ c.in-0.is

pub returns-in-1 : goal.returns-in-1
returns-in-1 c = sym (fits_32 c.ranges.z) ∙ of_int_lem _ _ _ c.in-1.is

pub returns-in-2 : goal.returns-in-2
returns-in-2 c = (rw (back c.ranges.z) at c.is_below-in-2.ensures) ∙ ap (is_below c.args.z) c.components.ensures.0 ∙ of_component _ _ _ c.in-2.is

pub returns-in-3 : goal.returns-in-3
returns-in-3 c = (rw (back c.ranges.z) at c.is_below-in-3.ensures) ∙ ap (is_below c.args.z) c.ports.ensures.0 ∙ of_port _ _ _ c.in-3.is
