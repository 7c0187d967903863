use native.Mathlib.Omega.{arith}
use mathlib.Core.Path.{◌≡◌, refl, sym, ◌∙◌}
use mathlib.Core.Bool.{true}
use mathlib.Core.List.{List}
use Prim.Native.Nat.{ℕ, ◌≤◌, ◌<◌}
use borrow.Author.Tests.{le-leb, lt-leb}
use lib.Dec.{leb, eqb}
use Rattle.sheet.proofs.All.{and-true, and-false, false-and, below_is_lem}
use Rattle.sheet.specs.declared.Record.{Record}
use Rattle.sheet_rules.specs.Shape.{is_reaction}
use Rattle.sheet_rules.specs.Static.{reaction_static, role_static}
use Rattle.checker_roles.proofs.role_static.Goals as goal

module _ (s : List ℕ) (b : Record) where
  first_two : b.f0 < 2 → role_static s b ≡ eqb b.f4 0
  unfolding role_static is_reaction
  first_two h = rw (role_static, false-and (leb 2 b.f0) (leb b.f0 3) (lt-leb 2 b.f0 h), le-leb b.f0 1 (omega arith)) refl

  a-reaction : 2 ≤ b.f0 → b.f0 ≤ 3 → role_static s b ≡ reaction_static s b
  unfolding role_static is_reaction
  a-reaction h k = rw (role_static, and-true (leb 2 b.f0) (leb b.f0 3) (le-leb 2 b.f0 h) (le-leb b.f0 3 k)) refl

  another : 3 < b.f0 → role_static s b ≡ true
  unfolding role_static is_reaction
  another h = rw (role_static, and-false (leb 2 b.f0) (leb b.f0 3) (lt-leb b.f0 3 h), lt-leb b.f0 1 (omega arith)) refl

pub returns-in-0-to-1 : goal.returns-in-0-to-1
returns-in-0-to-1 c = sym (first_two _ _ c.in-0-to-1.if-role-lt2-own.true)

pub returns-in-2-to-3 : goal.returns-in-2-to-3
returns-in-2-to-3 c = c.reaction_static.ensures ∙ sym (a-reaction _ _ c.in-2-to-3.if-role-lt2-own.false (below_is_lem _ _ c.in-2-to-3.if-role-lt4-own.true))

pub returns-in_default : goal.returns-in_default
returns-in_default c = sym (another _ _ c.in_default.if-role-lt4-own.false)
