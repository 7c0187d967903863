use mathlib.Core.Path.{sym, ap, ◌∙◌}
use lib.Dec.{ltb}
use Rattle.sheet_rules.specs.Shape.{type_exists, index_exists}
use Rattle.sheet_indices.proofs.Laws.{index_none, index_enumerated, index_number, index_past_lem, type_there, low_exists}
use Rattle.sheet_indices.proofs.index_exists.Goals as goal

pub returns-in-0-to-3 : goal.returns-in-0-to-3
returns-in-0-to-3 c = sym (low_exists _ _ c.in-0-to-3.if-i-lt4-own.true)

pub returns-in-4-to-7 : goal.returns-in-4-to-7
unfolding index_exists
returns-in-4-to-7 c = sym (ap (index_exists _) (index_none _ _ c.in-4-to-7.if-i-lt4-own.false c.in-4-to-7.if-i-lt8-own.true))

pub returns-in-8-to-60000 : goal.returns-in-8-to-60000
unfolding index_exists
returns-in-8-to-60000 c = ap (ltb _) c.count.ensures ∙ sym (ap (index_exists _) (index_enumerated _ _ c.in-8-to-60000.if-i-lt8-own.false c.in-8-to-60000.if-i-lt60001-own.true) ∙ type_there _ _ c.in-8-to-60000.if-i-lt8-own.false)

pub returns-in-60001-to-60064 : goal.returns-in-60001-to-60064
unfolding index_exists type_exists
returns-in-60001-to-60064 c = sym (ap (index_exists _) (index_number _ _ c.in-60001-to-60064.if-i-lt60001-own.false c.in-60001-to-60064.if-i-lt60065-own.true))

pub returns-in_default : goal.returns-in_default
unfolding index_exists
returns-in_default c = sym (ap (index_exists _) (index_past_lem _ _ c.in_default.if-i-lt60065-own.false))
