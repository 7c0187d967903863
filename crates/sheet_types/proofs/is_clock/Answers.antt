use mathlib.Core.Path.{sym}
use borrow.Author.Tests.{le-leb, lt-leb}
use Rattle.sheet.specs.Names.{is_clock}
use Rattle.sheet.proofs.All.{false-and, true-and}
use Rattle.sheet_types.proofs.is_clock.Goals as goal

pub returns-then-t-lt4 : goal.returns-then-t-lt4
unfolding is_clock
returns-then-t-lt4 c = sym (false-and _ _ (lt-leb 4 _ c.if-t-lt4.true))

pub returns : goal.returns
unfolding is_clock
returns c = sym (true-and _ _ (le-leb 4 _ c.if-t-lt4.false))
