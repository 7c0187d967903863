use mathlib.Core.Path.{sym, ◌∙◌, ap}
use Rattle.sheet.proofs.All.{true-and, false-and}
use Rattle.sheet_rules.specs.Types.{internal_name}
use Rattle.sheet_types.proofs.Laws.{no, so}
use Rattle.sheet_types.proofs.Table.{class-small}
use mathlib.Core.Bool.{not}
use Rattle.checker_sends.proofs.internal_name.Goals as goal

pub returns-then-not-has_class : goal.returns-then-not-has_class
unfolding internal_name
returns-then-not-has_class c = sym (false-and _ _ (no c.has_class.ensures (ap not c.if-not-has_class.true)))

pub has_reaction-requires : goal.has_reaction-requires
has_reaction-requires c = record { table_len = c.requires.table.size; n_bound = class-small _ _ _ (so c.has_class.ensures (ap not c.if-not-has_class.false)) }

pub returns : goal.returns
unfolding internal_name
returns c = c.has_reaction.ensures ∙ c.requires.table.right _ (class-small _ _ _ (so c.has_class.ensures (ap not c.if-not-has_class.false))) ∙ sym (true-and _ _ (so c.has_class.ensures (ap not c.if-not-has_class.false)))
