use native.Mathlib.Omega.{arith}
use mathlib.Core.Path.{sym, ◌∙◌}
use Rattle.checker_reactions.proofs.Entries.{body-small, enter_absent, enter_other, enter_past, enter_it}
use Rattle.checker_reactions.proofs.enter.Goals as goal

pub returns-in_default : goal.returns-in_default
returns-in_default c = enter_absent _ _ _ c.requires.table_len (sym c.record.ensures ∙ c.in_default.is)

pub returns-then-b-ne3 : goal.returns-then-b-ne3
returns-then-b-ne3 c = enter_other _ _ _ c.requires.table_len _ (sym c.record.ensures ∙ c.in-Some.is) c.if-b-ne3.true

pub returns-then-n-ge4096 : goal.returns-then-n-ge4096
returns-then-n-ge4096 c = enter_past _ _ _ c.requires.table_len _ (sym c.record.ensures ∙ c.in-Some.is) c.if-b-ne3.false c.if-n-ge4096.true

pub overflow_add-table : goal.overflow_add-table
overflow_add-table c = omega (arith, body-small _ _ _ (sym c.record.ensures ∙ c.in-Some.is))

pub overflow_cast-table : goal.overflow_cast-table
overflow_cast-table c = omega (arith, body-small _ _ _ (sym c.record.ensures ∙ c.in-Some.is))

pub returns : goal.returns
returns c = enter_it _ _ _ c.requires.table_len _ (sym c.record.ensures ∙ c.in-Some.is) c.if-b-ne3.false c.if-n-ge4096.false
