use mathlib.Core.Path.{sym, ap, ◌∙◌}
use Rattle.sheet_rules.specs.Check.{check_of}
use Rattle.machine_lists.proofs.Calls.{shape-list, static-list}
use Rattle.engine_lists.proofs.play.Goals as goal

pub new-requires : goal.new-requires
new-requires c = sym c.check_opened.ensures.0 ∙ c.in-Passed.is

pub returns-in-Shape : goal.returns-in-Shape
returns-in-Shape c = let args = c.args in
    let is = ap (λ r. check_of r.now) (sym c.new-opened.ensures.0) ∙ sym c.check_opened.ensures.0 ∙ c.in-Shape.is in
    shape-list args.sheet.now args.events.now args.st.now args.spare.now args.answers.now _ c.answered.ensures is

pub returns-in-Static : goal.returns-in-Static
returns-in-Static c = let args = c.args in
    let is = ap (λ r. check_of r.now) (sym c.new-opened.ensures.0) ∙ sym c.check_opened.ensures.0 ∙ c.in-Static.is in
    static-list args.sheet.now args.events.now args.st.now args.spare.now args.answers.now _ c.answered-in-Static.ensures is
