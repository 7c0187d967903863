use mathlib.Core.Path.{◌≡◌, sym, ap, ◌∙◌}
use borrow.Author.Tests.{lt-ltb, le-ltb, le-leb, lt-leb}
use mathlib.Core.List.{List}
use Prim.Native.Nat.{ℕ}
use lib.Dec.{ltb, leb}
use Rattle.sheet.proofs.All.{first_fails_lem, first_holds}
use Rattle.sheet.specs.declared.Record.{Record}
use Rattle.sheet.specs.All.{◌and◌}
use Rattle.sheet.specs.Table.{look_up}
use Rattle.sheet_rules.specs.Fields.{field_of, field_at, zero_from, components_of, ports_of, members_of}
use Rattle.sheet_rules.specs.Forms.{literal_of}
use Rattle.sheet_rules.specs.Shape.{literal_fields, literal_shape}
use Rattle.sheet_rules.proofs.Forms.{literal-self}
use Rattle.checker_literals.proofs.literal_fits.Goals as goal

module _ (s : List ℕ) (r : Record) where
  bool-literal : r.f0 ≡ 1 → literal_shape s r ≡ leb r.f1 1 and zero_from 2 r
  unfolding literal_shape literal_fields literal_of look_up
  bool-literal e = ap (λ n. literal_fields s r (literal_of n)) e

  int-literal : r.f0 ≡ 2 → literal_shape s r ≡ zero_from 3 r
  unfolding literal_shape literal_fields literal_of look_up
  int-literal e = ap (λ n. literal_fields s r (literal_of n)) e

  member-literal : (x : ℕ) → r.f0 ≡ 3 → x ≡ field_at s 1 r.f1 0 → literal_shape s r ≡ ltb r.f2 x and zero_from 3 r
  unfolding literal_shape literal_fields literal_of look_up field_at field_of members_of
  member-literal x e p = rw p (ap (λ n. literal_fields s r (literal_of n)) e)

  component-literal : (x : ℕ) → r.f0 ≡ 4 → x ≡ field_at s 0 0 0 → literal_shape s r ≡ ltb r.f1 x and zero_from 2 r
  unfolding literal_shape literal_fields literal_of look_up field_at field_of components_of
  component-literal x e p = rw p (ap (λ n. literal_fields s r (literal_of n)) e)

  port-literal : (x : ℕ) → r.f0 ≡ 5 → x ≡ field_at s 0 0 2 → literal_shape s r ≡ ltb r.f1 x and zero_from 2 r
  unfolding literal_shape literal_fields literal_of look_up field_at field_of ports_of
  port-literal x e p = rw p (ap (λ n. literal_fields s r (literal_of n)) e)

  self-literal : (r.f0 ≡ 1 → ⊥) → (r.f0 ≡ 2 → ⊥) → (r.f0 ≡ 3 → ⊥) → (r.f0 ≡ 4 → ⊥) → (r.f0 ≡ 5 → ⊥) → literal_shape s r ≡ zero_from 1 r
  unfolding literal_shape literal_fields
  self-literal a b d e f = ap (literal_fields s r) (literal-self r.f0 a b d e f)

pub returns-then-r-gt1 : goal.returns-then-r-gt1
returns-then-r-gt1 c = first_fails_lem _ _ (lt-leb _ _ c.if-r-gt1.true) ∙ sym (bool-literal _ _ c.in-1.is)

pub returns-then-field_at-r : goal.returns-then-field_at-r
returns-then-field_at-r c = first_fails_lem _ _ (le-ltb _ _ c.if-field_at-r.true) ∙ sym (member-literal _ _ _ c.in-3.is c.field_at.ensures.0)

pub returns-then-field_at-r-2 : goal.returns-then-field_at-r-2
returns-then-field_at-r-2 c = first_fails_lem _ _ (le-ltb _ _ c.if-field_at-r-2.true) ∙ sym (component-literal _ _ _ c.in-4.is c.field_at-in-4.ensures.0)

pub returns-then-field_at-r-3 : goal.returns-then-field_at-r-3
returns-then-field_at-r-3 c = first_fails_lem _ _ (le-ltb _ _ c.if-field_at-r-3.true) ∙ sym (port-literal _ _ _ c.in-5.is c.field_at-in-5.ensures.0)

pub returns-else-r-gt1 : goal.returns-else-r-gt1
returns-else-r-gt1 c = first_holds _ _ _ (le-leb _ _ c.if-r-gt1.false) c.zero_from.ensures ∙ sym (bool-literal _ _ c.in-1.is)

pub returns-in-2 : goal.returns-in-2
returns-in-2 c = c.zero_from-in-2.ensures ∙ sym (int-literal _ _ c.in-2.is)

pub returns-else-field_at-r : goal.returns-else-field_at-r
returns-else-field_at-r c = first_holds _ _ _ (lt-ltb _ _ c.if-field_at-r.false) c.zero_from-in-3.ensures ∙ sym (member-literal _ _ _ c.in-3.is c.field_at.ensures.0)

pub returns-else-field_at-r-2 : goal.returns-else-field_at-r-2
returns-else-field_at-r-2 c = first_holds _ _ _ (lt-ltb _ _ c.if-field_at-r-2.false) c.zero_from-in-4.ensures ∙ sym (component-literal _ _ _ c.in-4.is c.field_at-in-4.ensures.0)

pub returns-else-field_at-r-3 : goal.returns-else-field_at-r-3
returns-else-field_at-r-3 c = first_holds _ _ _ (lt-ltb _ _ c.if-field_at-r-3.false) c.zero_from-in-5.ensures ∙ sym (port-literal _ _ _ c.in-5.is c.field_at-in-5.ensures.0)

pub returns-in_default : goal.returns-in_default
returns-in_default c = c.zero_from-in_default.ensures ∙ sym (self-literal _ _ c.in_default.in_default-own.rest.0.0.0.0.1 c.in_default.in_default-own.rest.0.0.0.1 c.in_default.in_default-own.rest.0.0.1 c.in_default.in_default-own.rest.0.1 c.in_default.in_default-own.rest.1)
