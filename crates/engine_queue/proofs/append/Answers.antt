use mathlib.Core.Path.{sym, ap, ◌∙◌}
use native.Mathlib.Omega.{arith}
use borrow.Author.Tests.{leb-true, leb-false}
use Rattle.machine.specs.State.{class_limit, on}
use Rattle.machine.proofs.Appending.{appended_room, appended_full, appended-class_full}
use Rattle.engine_queue.specs.Changed.{changed_to}
use Rattle.engine_queue.proofs.append.Goals as goal

pub returns-then-n-ge-PLACES-clause-change : goal.returns-then-n-ge-PLACES-clause-change
unfolding changed_to
returns-then-n-ge-PLACES-clause-change c = λ s e. sym (appended_full s _ _ c.requires.head (omega arith))

pub returns-then-class_full-clause-change : goal.returns-then-class_full-clause-change
unfolding changed_to
returns-then-class_full-clause-change c = λ s e. sym (appended-class_full s _ _ c.requires.head (omega arith) (leb-true class_limit _ (sym (c.class_full.ensures s e) ∙ c.if-class_full.true)))

pub returns-clause-change : goal.returns-clause-change
unfolding changed_to
returns-clause-change c = λ s e. sym (ap on (c.put_last.ensures s e) ∙ appended_room s _ _ c.requires.head (omega arith) (leb-false class_limit _ (sym (c.class_full.ensures s e) ∙ c.if-class_full.false)))
