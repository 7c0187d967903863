use native.Mathlib.Omega.{arith}
use mathlib.Core.Path.{sym, ◌∙◌}
use Rattle.checker_reactions.proofs.Entries.{not_linked, linked}
use Rattle.checker_twins.proofs.link.Goals as goal

pub returns-then-not-is_reaction-clause-linked : goal.returns-then-not-is_reaction-clause-linked
returns-then-not-is_reaction-clause-linked c = not_linked _ _ _ _ c.requires.last_len.0 c.requires.last_len.1 (sym c.is_reaction.ensures ∙ c.if-not-is_reaction.true)

pub bounds-tables-n : goal.bounds-tables-n
bounds-tables-n c = omega (arith, c.requires.f2_bound (sym c.is_reaction.ensures ∙ c.if-not-is_reaction.false), c.requires.last_len.0)

pub bounds-tables-n-2 : goal.bounds-tables-n-2
bounds-tables-n-2 c = omega (arith, c.requires.f2_bound (sym c.is_reaction.ensures ∙ c.if-not-is_reaction.false), c.requires.last_len.0)

pub returns-clause-linked : goal.returns-clause-linked
returns-clause-linked c = linked _ _ _ _ c.requires.last_len.0 c.requires.last_len.1 (sym c.is_reaction.ensures ∙ c.if-not-is_reaction.false) (c.requires.f2_bound (sym c.is_reaction.ensures ∙ c.if-not-is_reaction.false)) c.requires.last_len.2
