use mathlib.Core.Path.{◌≡◌, sym, ap, ◌∙◌}
use mathlib.Core.Bool.{true}
use mathlib.Core.List.{List}
use Prim.Native.Nat.{ℕ, ◌≤◌}
use native.Mathlib.Omega.{arith}
use Rattle.sheet.specs.declared.Record.{Record}
use Rattle.sheet.specs.Table.{look_up}
use Rattle.sheet.proofs.Table.{beyond, lines_past}
use Rattle.sheet_rules.specs.Shape.{shape_table, record_shape}
use Rattle.checker_shape.proofs.record_fits.Goals as goal

from-0 : (k : ℕ) → 0 ≤ k
from-0 k = omega arith

other : (s : List ℕ) (k i : ℕ) (r : Record) → (k ≡ 0 → ⊥) → (k ≡ 1 → ⊥) → (k ≡ 2 → ⊥) → (k ≡ 3 → ⊥) → (k ≡ 4 → ⊥) → (k ≡ 5 → ⊥) → record_shape s k i r ≡ true
unfolding record_shape look_up
other s k i r a b d e f g = lines_past true 6 (shape_table s i r) 6 k tt (beyond (beyond (beyond (beyond (beyond (beyond (from-0 k) a) b) d) e) f) g)

pub returns-in-0 : goal.returns-in-0
unfolding record_shape look_up
returns-in-0 c = c.head_fits.ensures ∙ sym (ap (λ n. record_shape c.args.sheet.now.sheet.now n c.args.i c.args.r) c.in-0.is)

pub returns-in-1 : goal.returns-in-1
unfolding record_shape look_up
returns-in-1 c = c.enumerated_fits.ensures ∙ sym (ap (λ n. record_shape c.args.sheet.now.sheet.now n c.args.i c.args.r) c.in-1.is)

pub returns-in-2 : goal.returns-in-2
unfolding record_shape look_up
returns-in-2 c = c.declaration_fits.ensures ∙ sym (ap (λ n. record_shape c.args.sheet.now.sheet.now n c.args.i c.args.r) c.in-2.is)

pub returns-in-3 : goal.returns-in-3
unfolding record_shape look_up
returns-in-3 c = c.name_fits.ensures ∙ sym (ap (λ n. record_shape c.args.sheet.now.sheet.now n c.args.i c.args.r) c.in-3.is)

pub returns-in-4 : goal.returns-in-4
unfolding record_shape look_up
returns-in-4 c = c.chart_fits.ensures ∙ sym (ap (λ n. record_shape c.args.sheet.now.sheet.now n c.args.i c.args.r) c.in-4.is)

pub returns-in-5 : goal.returns-in-5
unfolding record_shape look_up
returns-in-5 c = c.body_fits.ensures ∙ sym (ap (λ n. record_shape c.args.sheet.now.sheet.now n c.args.i c.args.r) c.in-5.is)

pub returns-in_default : goal.returns-in_default
returns-in_default c = sym (other _ _ _ _ c.in_default.in_default-own.rest.0.0.0.0.0.1 c.in_default.in_default-own.rest.0.0.0.0.1 c.in_default.in_default-own.rest.0.0.0.1 c.in_default.in_default-own.rest.0.0.1 c.in_default.in_default-own.rest.0.1 c.in_default.in_default-own.rest.1)
