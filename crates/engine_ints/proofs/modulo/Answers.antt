use mathlib.Core.Path.{◌≡◌, refl, ◌∙◌}
use mathlib.Core.Bool.{false}
use lib.IntN.{◌-ℤ◌, ◌*ℤ◌}
use mir.Syntax.{w32, w64}
use mir.Val.{SFits, to_z, of_z}
use Rattle.machine_division.specs.Division.{quotient, remainder}
use Rattle.machine.specs.Values.{is_zero}
use Rattle.engine_ints.proofs.Range.{back, back64, widen, wide, quotient_fits, quotient-whole-fits, remainder-fits, is_zero_wide, not_zero_wide, by_zero, by_other, inside}
use Rattle.engine_ints.proofs.modulo.Goals as goal

not-zero : (c : goal.After-floored) → is_zero c.args.b ≡ false
not-zero c = not_zero_wide c.ranges.b c.if-y-eq0.false

-- the quotient as it is read back
read : (c : goal.After-floored) → to_z w64 (of_z w64 c.floored.result) ≡ quotient c.args.a c.args.b
read c = rw (rw (back c.ranges.a, back c.ranges.b) at c.floored.ensures) (back64 (quotient_fits c.ranges.a c.ranges.b))

-- a − b × (a div b) in 64 bits
rest : (c : goal.After-floored) → to_z w64 (of_z w64 (to_z w32 (of_z w32 c.args.a))) -ℤ to_z w64 (of_z w64 (to_z w64 (of_z w64 (to_z w32 (of_z w32 c.args.b))) *ℤ to_z w64 (of_z w64 c.floored.result))) ≡ remainder c.args.a c.args.b
unfolding remainder
rest c = rw (wide c.ranges.a, wide c.ranges.b, read c, back64 (quotient-whole-fits c.ranges.a c.ranges.b)) refl

fits : (c : goal.After-floored) → SFits w32 (remainder c.args.a c.args.b)
fits c = remainder-fits c.ranges.a c.ranges.b (not-zero c)

pub returns-then-y-eq0 : goal.returns-then-y-eq0
returns-then-y-eq0 c = by_zero _ _ _ (is_zero_wide c.ranges.b c.if-y-eq0.true)

pub floored-requires : goal.floored-requires
floored-requires c = rw (back c.ranges.b) (not_zero_wide c.ranges.b c.if-y-eq0.false)

pub overflow_mul-p : goal.overflow_mul-p
overflow_mul-p c = rw (wide c.ranges.b, read c) (quotient-whole-fits c.ranges.a c.ranges.b)

pub overflow_sub-r : goal.overflow_sub-r
overflow_sub-r c = rw (rest c) (widen (fits c))

pub overflow_cast-result : goal.overflow_cast-result
overflow_cast-result c = rw (rest c, back64 (widen (fits c))) (fits c)

pub returns : goal.returns
returns c = rw (rest c, back64 (widen (fits c)), back (fits c)) (inside _ _ (fits c)) ∙ by_other _ _ _ (not-zero c)
