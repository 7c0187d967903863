use mathlib.Core.Path.{sym, ap, ◌∙◌}
use Rattle.sheet_rules.specs.Check.{check_of}
use Rattle.machine.specs.declared.Answer.{Answer}
use Rattle.machine.specs.Play.{ended}
use Rattle.machine_events.proofs.Laws.{start-shape, start-static}
use Rattle.engine.proofs.start.Goals as goal

pub start_passed-requires : goal.start_passed-requires
start_passed-requires c = sym c.check_opened.ensures.0 ∙ c.in-Passed.is

pub returns-in-Shape : goal.returns-in-Shape
returns-in-Shape c = let result = c.args.res.now in
    let shape = ap (λ r. check_of r.now) (sym c.new-opened.ensures.0) ∙ sym c.check_opened.ensures.0 ∙ c.in-Shape.is in
    ap (λ (a : Answer). ended a result) c.answered.ensures ∙ sym (start-shape _ _ shape)

pub returns-in-Static : goal.returns-in-Static
returns-in-Static c = let result = c.args.res.now in
    let static = ap (λ r. check_of r.now) (sym c.new-opened.ensures.0) ∙ sym c.check_opened.ensures.0 ∙ c.in-Static.is in
    ap (λ (a : Answer). ended a result) c.answered-in-Static.ensures ∙ sym (start-static _ _ static)
