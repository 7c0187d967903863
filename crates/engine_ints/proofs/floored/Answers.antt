use mathlib.Core.Path.{◌≡◌}
use lib.IntN.{ℤ, ◌-ℤ◌, ◌*ℤ◌}
use lib.Signed.{quot_z}
use mir.Syntax.{w32, w64}
use mir.Val.{SFits, to_z, of_z}
use Rattle.engine_ints.proofs.Range.{back64, widen, wide, quot_fits, quot_whole-fits, left-over-fits, mul-fits, less-fits, quotient_fits, divisor}
use Rattle.engine_ints.proofs.Rounding.{rounded}
use Rattle.engine_ints.proofs.floored.Goals as goal

-- each number on the way is read back as it is
module _ {a b : ℤ} (x : SFits w32 a) (y : SFits w32 b) where
  q_back : to_z w64 (of_z w64 (quot_z a b)) ≡ quot_z a b
  q_back = back64 (quot_fits x y)

  whole_back : to_z w64 (of_z w64 (b *ℤ quot_z a b)) ≡ b *ℤ quot_z a b
  whole_back = back64 (quot_whole-fits x y)

  r_back : to_z w64 (of_z w64 (a -ℤ b *ℤ quot_z a b)) ≡ a -ℤ b *ℤ quot_z a b
  r_back = back64 (widen (left-over-fits x y))

  product-back : to_z w64 (of_z w64 ((a -ℤ b *ℤ quot_z a b) *ℤ b)) ≡ (a -ℤ b *ℤ quot_z a b) *ℤ b
  product-back = back64 (mul-fits (left-over-fits x y) y)

word : (c : goal.After-bool_word) → SFits w32 c.bool_word.result
word c = record { sfits = c.bool_word.type_inv }

pub nonzero_div-q : goal.nonzero_div-q
nonzero_div-q c = (divisor c.ranges.b c.requires, rw (wide c.ranges.a, wide c.ranges.b) (quot_fits c.ranges.a c.ranges.b))

pub overflow_sub-r : goal.overflow_sub-r
overflow_sub-r c = rw (wide c.ranges.a, wide c.ranges.b, q_back c.ranges.a c.ranges.b, whole_back c.ranges.a c.ranges.b) (widen (left-over-fits c.ranges.a c.ranges.b))

pub overflow_mul-r-2 : goal.overflow_mul-r-2
overflow_mul-r-2 c = rw (wide c.ranges.a, wide c.ranges.b, q_back c.ranges.a c.ranges.b, whole_back c.ranges.a c.ranges.b, r_back c.ranges.a c.ranges.b) (mul-fits (left-over-fits c.ranges.a c.ranges.b) c.ranges.b)

pub overflow_sub-result : goal.overflow_sub-result
overflow_sub-result c = rw (wide c.ranges.a, wide c.ranges.b, q_back c.ranges.a c.ranges.b, wide (word c)) (less-fits c.ranges.a c.ranges.b (word c))

pub returns : goal.returns
returns c = let low = rw (wide c.ranges.a, wide c.ranges.b, q_back c.ranges.a c.ranges.b, whole_back c.ranges.a c.ranges.b, r_back c.ranges.a c.ranges.b, product-back c.ranges.a c.ranges.b) at c.bool_word.ensures in
    rw (wide c.ranges.a, wide c.ranges.b, q_back c.ranges.a c.ranges.b, wide (word c), low, rounded c.args.a c.args.b c.requires) (back64 (quotient_fits c.ranges.a c.ranges.b))
