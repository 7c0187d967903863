use mathlib.Core.Path.{sym, ap, ◌∙◌}
use borrow.Author.Tests.{eq-eqb, ne_eqb}
use Rattle.sheet.proofs.All.{true-and, and-false, false-and}
use Rattle.sheet_rules.specs.declared.Typed.TheVariants.{Statement}
use Rattle.sheet_rules.specs.Types.{given, internal_type, arm_type}
use Rattle.sheet_types.proofs.Laws.{given_false, no, so}
use mathlib.Core.Bool.{not}
use Rattle.checker_sends.proofs.arm_type.Goals as goal

pub returns-then-chart_variable_type-clock_of : goal.returns-then-chart_variable_type-clock_of
unfolding arm_type
returns-then-chart_variable_type-clock_of c = given_false _ _ (false-and _ _ (ne_eqb _ _ (λ z. c.if-chart_variable_type-clock_of.true (c.chart_variable_type.ensures ∙ z ∙ sym c.clock_of.ensures))))

pub returns-then-not-is_of : goal.returns-then-not-is_of
unfolding arm_type
returns-then-not-is_of c = given_false _ _ (and-false _ _ (false-and _ _ (no c.is_of.ensures (ap not c.if-not-is_of.true))))

pub returns : goal.returns
unfolding arm_type internal_type
returns c = c.internal_type.ensures ∙ sym (ap (λ b. given b Statement) (true-and _ _ (eq-eqb _ _ (sym c.chart_variable_type.ensures ∙ c.if-chart_variable_type-clock_of.false ∙ c.clock_of.ensures)) ∙ true-and _ _ (so c.is_of.ensures (ap not c.if-not-is_of.false))))
