use mathlib.Core.Path.{subst}
use native.Mathlib.Omega.{arith}
use Rattle.program_text.specs.Decimal.{Put, signed}
use Rattle.program_text.proofs.Laws.{back, put_then}
use Rattle.program_listing.specs.Listing.{after_text}
use Rattle.program_listing.proofs.put_after.Goals as goal

pub returns : goal.returns
unfolding after_text
returns c = let text = back c.args.z c.ranges.z in
    let number = subst (λ w. Put c.put-a.new.out c.put-a.result (signed w) c.put_signed.new.out c.put_signed.result) text c.put_signed.ensures.0 in
    (put_then c.put-a.ensures.0 (omega arith) number, omega arith)
