use mathlib.Core.Path.{sym, ap, ◌∙◌}
use Rattle.sheet.proofs.All.{true-and, false-and}
use Rattle.sheet_rules.specs.declared.Typed.TheVariants.{Statement}
use Rattle.sheet_rules.specs.Types.{given, sequence_type, choice_type}
use Rattle.sheet_types.proofs.Laws.{given_false, so, no}
use mathlib.Core.Bool.{not}
use Rattle.checker_forms.proofs.choice_type.Goals as goal

pub returns-then-not-is_of : goal.returns-then-not-is_of
unfolding choice_type
returns-then-not-is_of c = given_false _ _ (false-and _ _ (no c.is_of.ensures (ap not c.if-not-is_of.true)))

pub returns : goal.returns
unfolding choice_type sequence_type
returns c = c.sequence_type.ensures ∙ sym (ap (λ b. given b Statement) (true-and _ _ (so c.is_of.ensures (ap not c.if-not-is_of.false))))
