use mathlib.Core.Path.{◌≡◌, refl, sym, ap, ◌∙◌}
use mathlib.Core.Bool.{Bool, true, false, not}
use Rattle.sheet.proofs.All.{true-and, false-and}
use Rattle.sheet_rules.specs.Static.{declaration_static}
use Rattle.sheet_types.proofs.Laws.{no, so}
use Rattle.sheet_indices.proofs.Laws.{plain_zero}
use Rattle.checker_statics.proofs.declaration_static.Goals as goal

twice : (b : Bool) → not (not b) ≡ b
twice true = refl
twice false = refl

pub returns-then-not-is_clock : goal.returns-then-not-is_clock
unfolding declaration_static
returns-then-not-is_clock c s = sym (ap not (false-and _ _ (no c.is_clock.ensures (ap not c.if-not-is_clock.true))))

pub returns : goal.returns
unfolding declaration_static
returns c s = sym (ap not (true-and _ _ (so c.is_clock.ensures (ap not c.if-not-is_clock.false))) ∙ twice _ ∙ plain_zero s _)
