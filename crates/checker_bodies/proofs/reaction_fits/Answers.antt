use native.Mathlib.Omega.{arith}
use mathlib.Core.Path.{◌≡◌, refl, sym, ap, ◌∙◌}
use borrow.Author.Tests.{lt-ltb, le-ltb, lt-leb, eq-eqb, ne_eqb}
use mathlib.Core.Bool.{false}
use mathlib.Core.List.{List}
use Prim.Native.Nat.{ℕ}
use lib.Dec.{ltb, leb, eqb}
use native.Mathlib.Decide.{dec_lt}
use Rattle.sheet.proofs.All.{false-and, and-false, first_fails_lem, first_holds}
use Rattle.sheet.specs.declared.Record.{Record}
use Rattle.sheet.specs.All.{◌and◌}
use Rattle.sheet.specs.Sheet.{count_of}
use Rattle.sheet_rules.specs.Fields.{field_of, field_at, ports_of}
use Rattle.sheet_rules.specs.Shape.{is_reaction, reaction_shape}
use Rattle.checker_bodies.proofs.reaction_fits.Goals as goal

not-reaction : (n : ℕ) → (n ≡ 2 → ⊥) → (n ≡ 3 → ⊥) → is_reaction n ≡ false
unfolding is_reaction
not-reaction n a b = elim (dec_lt n 2) [ yes l ↦ false-and (leb 2 n) (leb n 3) (lt-leb 2 n l) | no g ↦ and-false (leb 2 n) (leb n 3) (lt-leb n 3 (omega arith)) ]

module _ (s : List ℕ) (r : Record) where
  external : (x : ℕ) → r.f0 ≡ 2 → x ≡ field_at s 0 0 2 → reaction_shape s r ≡ ltb r.f1 x and ltb r.f2 (count_of s 3)
  unfolding reaction_shape is_reaction ◌and◌ field_at field_of ports_of
  external x e p = rw (reaction_shape, ap (λ n. eqb n 2) e, ap is_reaction e, p) refl

  internal : r.f0 ≡ 3 → reaction_shape s r ≡ eqb r.f1 0 and ltb r.f2 (count_of s 3)
  unfolding reaction_shape is_reaction ◌and◌
  internal e = rw (reaction_shape, ap (λ n. eqb n 2) e, ap is_reaction e) refl

  neither : (r.f0 ≡ 2 → ⊥) → (r.f0 ≡ 3 → ⊥) → reaction_shape s r ≡ eqb r.f1 0 and eqb r.f2 0
  unfolding reaction_shape
  neither a b = rw (reaction_shape, ne_eqb _ _ a, not-reaction _ a b) refl

pub returns-then-ports-r : goal.returns-then-ports-r
returns-then-ports-r c = first_fails_lem _ _ (le-ltb _ _ c.if-ports-r.true) ∙ sym (external _ _ _ c.in-2.is c.field_at-ports.ensures.0)

pub returns-then-r-ne0 : goal.returns-then-r-ne0
returns-then-r-ne0 c = first_fails_lem _ _ (ne_eqb _ _ c.if-r-ne0.true) ∙ sym (internal _ _ c.in-3.is)

pub returns-then-r-ne0-2 : goal.returns-then-r-ne0-2
returns-then-r-ne0-2 c = first_fails_lem _ _ (ne_eqb _ _ c.if-r-ne0-2.true) ∙ sym (neither _ _ c.in_default.in_default-own.rest.0.1 c.in_default.in_default-own.rest.1)

pub returns-else-ports-r : goal.returns-else-ports-r
returns-else-ports-r c = first_holds _ _ _ (lt-ltb _ _ c.if-ports-r.false) (ap (ltb _) c.count.ensures) ∙ sym (external _ _ _ c.in-2.is c.field_at-ports.ensures.0)

pub returns-else-r-ne0 : goal.returns-else-r-ne0
returns-else-r-ne0 c = first_holds _ _ _ (eq-eqb _ _ c.if-r-ne0.false) (ap (ltb _) c.count-in-3.ensures) ∙ sym (internal _ _ c.in-3.is)

pub returns-else-r-ne0-2 : goal.returns-else-r-ne0-2
returns-else-r-ne0-2 c = first_holds _ _ _ (eq-eqb _ _ c.if-r-ne0-2.false) (refl) ∙ sym (neither _ _ c.in_default.in_default-own.rest.0.1 c.in_default.in_default-own.rest.1)
