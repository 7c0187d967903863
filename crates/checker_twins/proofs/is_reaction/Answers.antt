use mathlib.Core.Path.{sym}
use borrow.Author.Tests.{le-leb, lt-leb}
use Rattle.sheet.proofs.All.{true-and, false-and}
use Rattle.sheet_rules.specs.Shape.{is_reaction}
use Rattle.checker_twins.proofs.is_reaction.Goals as goal

pub returns-then-b-lt2 : goal.returns-then-b-lt2
unfolding is_reaction
returns-then-b-lt2 c = sym (false-and _ _ (lt-leb _ _ c.if-b-lt2.true))

pub returns : goal.returns
unfolding is_reaction
returns c = sym (true-and _ _ (le-leb _ _ c.if-b-lt2.false))
