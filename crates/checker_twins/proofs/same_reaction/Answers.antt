use mathlib.Core.Path.{refl, sym}
use Prim.Native.Nat.{◌-◌}
use borrow.Author.Tests.{le-leb, lt-leb, eq-eqb, ne_eqb}
use Rattle.sheet.proofs.All.{first_fails_lem, rest_fails, first_holds, and-true}
use Rattle.sheet_rules.specs.Static.{same_reaction}
use Rattle.sheet_rules.specs.Shape.{is_reaction}
use Rattle.checker_twins.proofs.same_reaction.Goals as goal

pub returns-then-a-lt2 : goal.returns-then-a-lt2
unfolding same_reaction is_reaction
returns-then-a-lt2 c = first_fails_lem _ _ (sym (first_fails_lem _ _ (lt-leb _ _ c.if-a-lt2.true)))

pub returns-then-a-gt3 : goal.returns-then-a-gt3
unfolding same_reaction is_reaction
returns-then-a-gt3 c = first_fails_lem _ _ (sym (rest_fails _ _ (sym (lt-leb _ _ c.if-a-gt3.true))))

pub returns-then-a-b : goal.returns-then-a-b
unfolding same_reaction
returns-then-a-b c = rest_fails _ _ (first_fails_lem _ _ (ne_eqb _ _ c.if-a-b.true))

pub returns-then-a-b-2 : goal.returns-then-a-b-2
unfolding same_reaction
returns-then-a-b-2 c = rest_fails _ _ (rest_fails _ _ (first_fails_lem _ _ (ne_eqb _ _ c.if-a-b-2.true)))

pub returns : goal.returns
unfolding same_reaction is_reaction
returns c = first_holds _ _ _ (and-true _ _ (le-leb _ _ c.if-a-lt2.false) (le-leb _ _ c.if-a-gt3.false)) (first_holds _ _ _ (eq-eqb _ _ c.if-a-b.false) (first_holds _ _ _ (eq-eqb _ _ c.if-a-b-2.false) refl))
