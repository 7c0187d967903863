use mathlib.Core.Path.{◌≡◌, ◌∙◌}
use native.Mathlib.Omega.{arith}
use mir.Syntax.{w32}
use mir.Val.{of_z, to_z}
use mir.ValLaws.{to_z_pos}
use borrow.Author.Rules.{rules}
use Rattle.engine_leaves.proofs.Words.{literal_1, literal_2, literal_3, literal_4, literal_5, literal-rest}
use Rattle.engine_leaves.proofs.literal.Goals as goal

pub returns-in-1 : goal.returns-in-1
returns-in-1 c = to_z_pos w32 _ (omega arith) ∙ literal_1 _ _ c.in-1.is

pub returns-in-2 : goal.returns-in-2
returns-in-2 c = (let e : to_z w32 (of_z w32 c.signed.result) ≡ c.signed.result = search rules in e ∙ c.signed.ensures) ∙ literal_2 _ _ c.in-2.is

pub returns-in-3 : goal.returns-in-3
returns-in-3 c = to_z_pos w32 _ (omega arith) ∙ literal_3 _ _ c.in-3.is

pub returns-in-4 : goal.returns-in-4
returns-in-4 c = to_z_pos w32 _ (omega arith) ∙ literal_4 _ _ c.in-4.is

pub returns-in-5 : goal.returns-in-5
returns-in-5 c = to_z_pos w32 _ (omega arith) ∙ literal_5 _ _ c.in-5.is

pub returns-in_default : goal.returns-in_default
returns-in_default c = to_z_pos w32 _ (omega arith) ∙ literal-rest _ _ (omega arith) (omega arith) (omega arith) (omega arith) (omega arith)
