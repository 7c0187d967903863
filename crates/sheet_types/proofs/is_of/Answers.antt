use mathlib.Core.Path.{sym, ap}
use Rattle.sheet_rules.specs.Types.{is_of}
use Rattle.sheet_types.proofs.is_of.Goals as goal

pub returns-in-Expression : goal.returns-in-Expression
unfolding is_of
returns-in-Expression c = sym (ap (λ x. is_of x c.args.t) c.in-Expression.is)

pub returns-in-Statement : goal.returns-in-Statement
unfolding is_of
returns-in-Statement c = sym (ap (λ x. is_of x c.args.t) c.in-Statement.is)

pub returns-in-Wrong : goal.returns-in-Wrong
unfolding is_of
returns-in-Wrong c = sym (ap (λ x. is_of x c.args.t) c.in-Wrong.is)
