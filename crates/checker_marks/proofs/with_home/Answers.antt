use native.Mathlib.Omega.{arith}
use Rattle.checker_pass.proofs.Times.{named-quotient, marked_low, marked_high}
use Rattle.checker_marks.proofs.with_home.Goals as goal

pub overflow_add-result : goal.overflow_add-result
overflow_add-result c = omega (arith, c.once_more-used.ensures, named-quotient c.args.v, c.if-v-lt4.true)

pub returns-then-v-lt4 : goal.returns-then-v-lt4
returns-then-v-lt4 c = omega (arith, c.once_more-used.ensures, marked_low c.args.k c.args.v (omega arith))

pub returns : goal.returns
returns c = omega (arith, c.once_more-used.ensures, marked_high c.args.k c.args.v (omega arith))
