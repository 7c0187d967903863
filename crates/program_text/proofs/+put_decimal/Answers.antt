use mathlib.Core.Path.{sym, subst}
use native.Mathlib.Omega.{arith}
use Rattle.program_text.specs.Decimal.{Put}
use Rattle.program_text.proofs.Laws.{put_then, decimal-one, decimal_more, decimal_room}
use Rattle.program_text.proofs.+put_decimal.Goals as goal

pub put-requires : goal.put-requires
put-requires t c = let p = c.requires in omega arith

pub returns-then-n-lt10 : goal.returns-then-n-lt10
returns-then-n-lt10 t c = let text = sym (decimal-one c.args.n c.if-n-lt10.true) in
    (subst (λ u. Put c.args.out.now c.args.at u c.put.new.out c.put.result) text c.put.ensures.0, omega arith)

pub put_decimal-last-requires : goal.put_decimal-last-requires
put_decimal-last-requires t c = (let e = c.decreases in let l = c.if-n-lt10.false in omega arith, c.requires)

pub put-requires-2 : goal.put-requires-2
put-requires-2 t c = omega (arith, decimal_room c.args.n c.if-n-lt10.false c.ranges.n.fits)

pub returns : goal.returns
returns t c = let n = c.args.n in
    let room = decimal_room n c.if-n-lt10.false c.ranges.n.fits in
    let text = sym (decimal_more n c.if-n-lt10.false c.ranges.n.fits) in
    let both = put_then c.put_decimal-last.ensures.0 (omega arith) c.put-2.ensures.0 in
    (subst (λ u. Put c.args.out.now c.args.at u c.put-2.new.out c.put-2.result) text both, omega arith)
