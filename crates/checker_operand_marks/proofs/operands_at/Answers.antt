use mathlib.Core.Path.{ap, ◌∙◌}
use Rattle.sheet_rules.specs.Forms.{operands_of}
use Rattle.sheet_rules.proofs.Forms.{operands-plain}
use Rattle.sheet.specs.declared.Record.{Record}
use Rattle.checker_operand_marks.proofs.operands_at.Goals as goal

pub returns-then-r-eq40 : goal.returns-then-r-eq40
returns-then-r-eq40 c = (c.operands.ensures.0 ∙ ap (λ (x : Record). operands_of c.args.sheet.now.sheet.now x c.args.r) c.home_chart-c.ensures, c.operands.ensures.1)

pub returns : goal.returns
returns c = (c.operands-2.ensures.0 ∙ operands-plain _ _ _ _ c.if-r-eq40.false, c.operands-2.ensures.1)
