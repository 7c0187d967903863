use mathlib.Core.Path.{◌≡◌, refl, sym, ◌∙◌}
use mathlib.Core.Bool.{Bool}
use mathlib.Core.List.{List}
use Prim.Native.Nat.{ℕ}
use borrow.Author.Tests.{eq-eqb, ne_eqb}
use Rattle.sheet.specs.All.{◌and◌}
use Rattle.sheet.proofs.All.{first_fails_lem, first_holds}
use Rattle.sheet.specs.declared.Record.{Record}
use Rattle.sheet.specs.declared.Range.{Range}
use Rattle.sheet.specs.Names.{body_parameters}
use Rattle.sheet_rules.specs.Types.{has_class, name_range}
use Rattle.sheet_rules.specs.Static.{same_types, reaction_static}
use Rattle.checker_roles.proofs.reaction_static.Goals as goal

module _ (s : List ℕ) (b : Record) where
  of-external : b.f0 ≡ 2 → reaction_static s b ≡ has_class s b.f2 0 and same_types s (body_parameters b) (name_range s b.f2)
  unfolding reaction_static
  of-external e = rw (reaction_static, eq-eqb _ _ e) refl

  of-internal : (b.f0 ≡ 2 → ⊥) → reaction_static s b ≡ has_class s b.f2 1 and same_types s (body_parameters b) (name_range s b.f2)
  unfolding reaction_static
  of-internal e = rw (reaction_static, ne_eqb _ _ e) refl

same-ranges : (s : List ℕ) (g h g' h' : Range) (x : Bool) → x ≡ same_types s g h → g ≡ g' → h ≡ h' → x ≡ same_types s g' h'
same-ranges s g h g' h' x e p q = rw (p, q) at e

pub returns-then-not-has_class : goal.returns-then-not-has_class
returns-then-not-has_class c = first_fails_lem _ _ (sym c.has_class.ensures ∙ c.if-not-has_class.true) ∙ sym (of-external _ _ c.if-b-eq2.true)

pub returns-then-b-eq2 : goal.returns-then-b-eq2
returns-then-b-eq2 c = first_holds _ _ _ (sym c.has_class.ensures ∙ c.if-not-has_class.false) (same-ranges _ _ _ _ _ _ c.same_types.ensures c.parameters.ensures.0 c.name_range.ensures.0) ∙ sym (of-external _ _ c.if-b-eq2.true)

pub returns-then-not-has_class-2 : goal.returns-then-not-has_class-2
returns-then-not-has_class-2 c = first_fails_lem _ _ (sym c.has_class-2.ensures ∙ c.if-not-has_class-2.true) ∙ sym (of-internal _ _ c.if-b-eq2.false)

pub returns : goal.returns
returns c = first_holds _ _ _ (sym c.has_class-2.ensures ∙ c.if-not-has_class-2.false) (same-ranges _ _ _ _ _ _ c.same_types-2.ensures c.parameters-2.ensures.0 c.name_range-2.ensures.0) ∙ sym (of-internal _ _ c.if-b-eq2.false)
