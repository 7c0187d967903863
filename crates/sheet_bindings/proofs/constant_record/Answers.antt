use mathlib.Core.Path.{sym}
use Rattle.sheet_rules.proofs.Bindings.{constant_first, constant_second}
use Rattle.sheet_bindings.proofs.constant_record.Goals as goal

pub returns-then-j-lt7 : goal.returns-then-j-lt7
returns-then-j-lt7 c = sym (constant_first _ _ c.if-j-lt7.true).0

pub returns : goal.returns
returns c = sym (constant_second _ _ c.if-j-lt7.false).0
