use native.Mathlib.Omega.{arith}
use mathlib.Core.Path.{◌∙◌}
use lib.IntN.{pos}
use Rattle.engine_rows.proofs.Laws.{given}
use Rattle.engine_defaults.proofs.Laws.{default_zero, default_member_lem}
use Rattle.engine_defaults.proofs.default_of.Goals as goal

pub returns-then-t-lt8 : goal.returns-then-t-lt8
returns-then-t-lt8 c = default_zero _ _ c.if-t-lt8.true

pub returns : goal.returns
returns c = given (pos c.field_at.result) (let l = c.field_at.ensures.1 in omega arith) ∙ default_member_lem _ _ _ c.if-t-lt8.false c.field_at.ensures.0
