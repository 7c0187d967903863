use native.Mathlib.Omega.{arith}
use mathlib.Core.Path.{◌≡◌, refl, sym, ap, ◌∙◌}
use mathlib.Core.List.{List}
use Prim.Native.Nat.{ℕ, ◌+◌, ◌-◌, ◌≤◌}
use Rattle.sheet.specs.declared.Record.{Record}
use Rattle.sheet_rules.specs.Fields.{one_if, sum_below, count_below}
use Rattle.sheet_rules.proofs.Fields.{sum_more}
use Rattle.sheet_rules.specs.Static.{has_role, bodies_with}
use Rattle.checker_roles.proofs.bodies_with.Invariants.{counts}
use Rattle.checker_roles.proofs.bodies_with.Goals as goal

more : (s : List ℕ) (first k j n x : ℕ) → n ≡ sum_below j (counts s first k) → x ≡ one_if (has_role s (first + j) k) → n + x ≡ sum_below (j + 1) (counts s first k)
more s first k j n x p q = rw (p, q) (sym (sum_more j (counts s first k)))

all-counted : (s : List ℕ) (c : Record) (k j n : ℕ) → j ≤ c.f5 → c.f5 ≤ j → n ≡ sum_below j (counts s c.f4 k) → n ≡ bodies_with s c k
unfolding bodies_with count_below
all-counted s c k j n a b p = let same : j ≡ c.f5 = omega arith in p ∙ ap (λ m. sum_below m (counts s c.f4 k)) same

pub loop-j-init : goal.loop-j-init
unfolding sum_below
loop-j-init c = (omega arith, omega arith, omega arith, refl)

pub overflow_add-n : goal.overflow_add-n
overflow_add-n c = omega (arith, c.role_count-n.ensures.1)

pub loop-j-preserved : goal.loop-j-preserved
loop-j-preserved c = (omega arith, c.loop-j.invariant.1, omega (arith, c.role_count-n.ensures.1), more _ _ _ _ _ _ c.loop-j.invariant.3 c.role_count-n.ensures.0)

pub returns : goal.returns
returns c = all-counted _ _ _ _ _ c.loop-j.invariant.0 c.loop-j-test.false c.loop-j.invariant.3
