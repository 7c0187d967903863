use mathlib.Core.Path.{◌≡◌, refl, ◌∙◌}
use native.Mathlib.Omega.{arith}
use mir.Syntax.{w32}
use mir.Val.{of_z, to_z}
use borrow.Author.Rules.{rules}
use Rattle.engine_ints.proofs.Stops.{handed_on}
use Rattle.engine_data.proofs.Four.{data_start, data_end_lem, data_again, data_stopped}
use Rattle.engine_data.proofs.gather.Goals as goal

pub loop-j-init : goal.loop-j-init
loop-j-init c = data_start _ _ _ _ _ _ _ _ refl

pub returns-in_err-word : goal.returns-in_err-word
returns-in_err-word c = handed_on _ c.from_residual.ensures.1 ∙ data_stopped _ _ _ _ _ _ _ _ _ _ c.loop-j.invariant c.loop-j-test.true _ (rw c.field-n.ensures.0 at c.in_err-word.ensures)

pub loop-j-preserved : goal.loop-j-preserved
loop-j-preserved c = let h : to_z w32 (of_z w32 c.in_ok-word.word) ≡ c.in_ok-word.word = search rules in
    rw h (data_again _ _ _ _ _ _ _ _ _ _ c.loop-j.invariant c.loop-j-test.true c.requires.2 _ _ (rw c.field-n.ensures.0 at c.in_ok-word.ensures))

pub returns : goal.returns
returns c = data_end_lem _ _ _ _ _ _ _ _ _ _ c.loop-j.invariant (λ h. let q = c.loop-j-test.false in omega arith)
