use Rattle.std.proofs.Common.{◌≡◌, sym, ap, subst, ◌∙◌}
use Rattle.sheet_rules.specs.Check.{check_of}
use Rattle.program_runs.specs.Start.{StartAnswers}
use Rattle.program_runs.proofs.Kept.{shape-answers, static-answers}
use Rattle.program_runs.proofs.play.Goals as goal

pub returns-in-Shape : goal.returns-in-Shape
returns-in-Shape g c = subst (StartAnswers c.args.sheet.now) (sym c.refused.ensures) (shape-answers c.args.sheet.now (ap (λ r. check_of r.now) (sym c.new-opened.ensures.0) ∙ sym c.check_opened.ensures.0 ∙ c.in-Shape.is))

pub returns-in-Static : goal.returns-in-Static
returns-in-Static g c = subst (StartAnswers c.args.sheet.now) (sym c.refused-in-Static.ensures) (static-answers c.args.sheet.now (ap (λ r. check_of r.now) (sym c.new-opened.ensures.0) ∙ sym c.check_opened.ensures.0 ∙ c.in-Static.is))
