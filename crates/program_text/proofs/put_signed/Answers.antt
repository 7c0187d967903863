use mathlib.Core.Path.{sym, ap, subst, ◌∙◌}
use native.Mathlib.Omega.{arith}
use lib.IntN.{nat_abs}
use Rattle.program_text.specs.Decimal.{decimal, Put}
use Rattle.program_text.proofs.Laws.{back, put_then, signed_below, signed_other}
use Rattle.program_text.proofs.put_signed.Goals as goal

pub returns-then-z-lt0 : goal.returns-then-z-lt0
returns-then-z-lt0 c = let z = c.args.z in
    let e = back z c.ranges.z in
    let number = subst (λ n. Put c.put-next.new.out c.put-next.result (decimal n) c.put_decimal.new.out c.put_decimal.result) (c.unsigned_abs.ensures.value ∙ ap nat_abs e) c.put_decimal.ensures.0 in
    let both = put_then c.put-next.ensures.0 (omega arith) number in
    let text = sym (signed_below z (rw e at c.if-z-lt0.true)) in
    (subst (λ u. Put c.args.out.now c.args.at u c.put_decimal.new.out c.put_decimal.result) text both, omega arith)

pub returns : goal.returns
returns c = let z = c.args.z in
    let e = back z c.ranges.z in
    let text = ap decimal (c.unsigned_abs-2.ensures.value ∙ ap nat_abs e) ∙ sym (signed_other z (rw e at c.if-z-lt0.false)) in
    (subst (λ u. Put c.args.out.now c.args.at u c.put_decimal-2.new.out c.put_decimal-2.result) text c.put_decimal-2.ensures.0, omega arith)
