use native.Mathlib.Omega.{arith}
use mathlib.Core.Path.{sym}
use Rattle.sheet_rules.proofs.Bindings.{constant_first, constant_second}
use Rattle.sheet_bindings.proofs.constant_field.Goals as goal

pub returns-then-j-lt7 : goal.returns-then-j-lt7
returns-then-j-lt7 c = sym (constant_first 0 _ c.if-j-lt7.true).1

pub returns : goal.returns
returns c = let e = (constant_second 0 _ c.if-j-lt7.false).1 in omega arith
