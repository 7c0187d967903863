use mathlib.Core.Path.{◌≡◌, refl, sym, ap}
use borrow.Author.Tests.{ne_eqb}
use Prim.Native.Nat.{ℕ}
use Rattle.sheet.specs.declared.Record.{Record}
use Rattle.sheet_rules.specs.Shape.{variables_at}
use Rattle.checker_nodes.proofs.variables_at.Goals as goal

other : (c b : Record) (place : ℕ) → (place ≡ 0 → ⊥) → (place ≡ 1 → ⊥) → (place ≡ 2 → ⊥) → 0 ≡ variables_at c b place
unfolding variables_at
other c b place x y z = rw (variables_at, ne_eqb place 0 x, ne_eqb place 1 y, ne_eqb place 2 z) refl

pub returns-in-0 : goal.returns-in-0
unfolding variables_at
returns-in-0 c = sym (ap (variables_at c.args.c c.args.b) c.in-0.is)

pub returns-in-1 : goal.returns-in-1
unfolding variables_at
returns-in-1 c = sym (ap (variables_at c.args.c c.args.b) c.in-1.is)

pub returns-in-2 : goal.returns-in-2
unfolding variables_at
returns-in-2 c = sym (ap (variables_at c.args.c c.args.b) c.in-2.is)

pub returns-in_default : goal.returns-in_default
returns-in_default c = other _ _ _ c.in_default.in_default-own.rest.0.0.1 c.in_default.in_default-own.rest.0.1 c.in_default.in_default-own.rest.1
