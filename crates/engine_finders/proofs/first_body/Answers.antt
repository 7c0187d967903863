use mathlib.Core.Path.{sym, ◌∙◌}
use native.Mathlib.Omega.{arith}
use Rattle.std.proofs.Common.{of_calls, below_more}
use Rattle.sheet_rules.proofs.Fields.{holds-present, holds_absent}
use Rattle.engine_finders.proofs.first_body.Goals as goal

pub loop-j-preserved-in_default : goal.loop-j-preserved-in_default
loop-j-preserved-in_default g c = λ p t. below_more _ _ (c.loop-j.invariant p t) (holds_absent _ _ (sym c.record.ensures ∙ c.in_default.is))

pub returns-then-fits : goal.returns-then-fits
returns-then-fits g c = λ p t. record {
  within = omega arith;
  before = c.loop-j.invariant p t;
  here = λ l. holds-present _ _ _ (sym c.record.ensures ∙ c.in-Some.is) ∙ sym (t _ _ _ (sym c.record.ensures ∙ c.in-Some.is) (search of_calls)) ∙ c.if-fits.true;
}

pub loop-j-preserved : goal.loop-j-preserved
loop-j-preserved g c = λ p t. below_more _ _ (c.loop-j.invariant p t) (holds-present _ _ _ (sym c.record.ensures ∙ c.in-Some.is) ∙ sym (t _ _ _ (sym c.record.ensures ∙ c.in-Some.is) (search of_calls)) ∙ c.if-fits.false)
