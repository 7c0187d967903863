use borrow.Author.Rules.{rules}
use Rattle.sheet_rules.specs.Types.{is_statement}
use Rattle.sheet_types.proofs.is_statement.Goals as goal

pub returns-in-Expression : goal.returns-in-Expression
unfolding is_statement
returns-in-Expression c = search rules

pub returns-in-Statement : goal.returns-in-Statement
unfolding is_statement
returns-in-Statement c = search rules

pub returns-in-Wrong : goal.returns-in-Wrong
unfolding is_statement
returns-in-Wrong c = search rules
