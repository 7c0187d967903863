use Rattle.std.specs.Prelude.{Ok}
use mathlib.Core.Path.{sym, ap, ◌∙◌}
use native.Mathlib.Omega.{arith}
use lib.IntN.{ℤ}
use Rattle.engine_ints.proofs.Range.{back}
use Rattle.engine_ready.proofs.Cells.{leads_inside}
use Rattle.engine_leaves.proofs.Places.{word_there, word_outside}
use Rattle.engine_leaves.proofs.element_at.Goals as goal

pub offset_bounds-st-k : goal.offset_bounds-st-k
offset_bounds-st-k c = let found = rw (back c.ranges.i) at c.element_word.ensures in record { fits = omega (arith, leads_inside _ _ _ c.requires _ _ (sym found ∙ c.in-Some.is)) }

pub bounds-st-k : goal.bounds-st-k
bounds-st-k c = let found = rw (back c.ranges.i) at c.element_word.ensures in leads_inside _ _ _ c.requires _ _ (sym found ∙ c.in-Some.is)

pub returns-in_default : goal.returns-in_default
returns-in_default c = word_outside _ _ _ _ (rw (back c.ranges.i) at c.element_word.ensures) c.in_default.is

pub returns : goal.returns
returns c = ap (λ (z : ℤ). Ok (z, c.args.left)) (back (record { sfits = omega arith })) ∙ word_there _ _ _ _ (rw (back c.ranges.i) at c.element_word.ensures) _ c.in-Some.is
