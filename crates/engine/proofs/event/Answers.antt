use mathlib.Core.Path.{sym, ap, ◌∙◌}
use Rattle.sheet_rules.specs.Check.{check_of}
use Rattle.engine.proofs.Calls.{shape-event, static-event}
use Rattle.engine.proofs.event.Goals as goal

pub on_passed-requires : goal.on_passed-requires
on_passed-requires c = sym c.check_opened.ensures.0 ∙ c.in-Passed.is

pub returns-in-Shape : goal.returns-in-Shape
returns-in-Shape c = shape-event _ _ _ _ _ c.answered.ensures (ap (λ r. check_of r.now) (sym c.new-opened.ensures.0) ∙ sym c.check_opened.ensures.0 ∙ c.in-Shape.is)

pub returns-in-Static : goal.returns-in-Static
returns-in-Static c = static-event _ _ _ _ _ c.answered-in-Static.ensures (ap (λ r. check_of r.now) (sym c.new-opened.ensures.0) ∙ sym c.check_opened.ensures.0 ∙ c.in-Static.is)
