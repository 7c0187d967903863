use Rattle.std.specs.Prelude.{Ok}
use mathlib.Core.Path.{ap, ◌∙◌}
use native.Mathlib.Omega.{arith}
use lib.Signed.{lt_z}
use Rattle.sheet.specs.All.{◌and◌}
use Rattle.machine.specs.Values.{same_word}
use Rattle.machine.specs.Eval.{is_one}
use Rattle.engine_ints.proofs.Range.{back}
use Rattle.engine_ints.proofs.Words.{word_back, binary_9, binary_10, binary_11, binary_12, binary_13, binary_14, binary_15, binary-rest}
use Rattle.engine_ints.proofs.binary.Goals as goal

pub returns-in-9 : goal.returns-in-9
returns-in-9 c = let x = c.args in ap (λ z. Ok (z, x.left)) (word_back _ (is_one x.a and is_one x.b) (rw (back c.ranges.a, back c.ranges.b) at c.both.ensures)) ∙ binary_9 x.op x.a x.b x.left c.in-9.is

pub returns-in-10 : goal.returns-in-10
returns-in-10 c = let x = c.args in ap (λ z. Ok (z, x.left)) (word_back _ (same_word x.a x.b) (rw (back c.ranges.a, back c.ranges.b) at c.same.ensures)) ∙ binary_10 x.op x.a x.b x.left c.in-10.is

pub returns-in-11 : goal.returns-in-11
returns-in-11 c = let x = c.args in ap (λ z. Ok (z, x.left)) (word_back _ (lt_z x.a x.b) (rw (back c.ranges.a, back c.ranges.b) at c.less.ensures)) ∙ binary_11 x.op x.a x.b x.left c.in-11.is

pub returns-in-12 : goal.returns-in-12
returns-in-12 c = let x = c.args in (rw (back c.ranges.a, back c.ranges.b) at c.plus.ensures) ∙ binary_12 x.op x.a x.b x.left c.in-12.is

pub returns-in-13 : goal.returns-in-13
returns-in-13 c = let x = c.args in (rw (back c.ranges.a, back c.ranges.b) at c.minus.ensures) ∙ binary_13 x.op x.a x.b x.left c.in-13.is

pub returns-in-14 : goal.returns-in-14
returns-in-14 c = let x = c.args in (rw (back c.ranges.a, back c.ranges.b) at c.times.ensures) ∙ binary_14 x.op x.a x.b x.left c.in-14.is

pub returns-in-15 : goal.returns-in-15
returns-in-15 c = let x = c.args in (rw (back c.ranges.a, back c.ranges.b) at c.div.ensures) ∙ binary_15 x.op x.a x.b x.left c.in-15.is

pub returns-in_default : goal.returns-in_default
returns-in_default c = let x = c.args in (rw (back c.ranges.a, back c.ranges.b) at c.modulo.ensures) ∙ binary-rest x.op x.a x.b x.left (omega arith) (omega arith) (omega arith) (omega arith) (omega arith) (omega arith) (omega arith)
