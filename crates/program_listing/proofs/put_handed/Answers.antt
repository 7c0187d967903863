use native.Mathlib.Omega.{arith}
use mathlib.Core.Path.{sym, subst}
use Rattle.program_text.specs.Decimal.{Put}
use Rattle.program_text.proofs.Laws.{put_then, put_none}
use Rattle.program_listing.specs.Listing.{handed_text}
use Rattle.program_listing.proofs.put_handed.Goals as goal

pub returns-in-None : goal.returns-in-None
unfolding handed_text
returns-in-None c = let out = c.args.out.now in
    let at = c.args.at in
    (subst (λ h. Put out at (handed_text h) out at) (sym c.in-None.is) (put_none out at), omega arith)

pub returns-in-Some : goal.returns-in-Some
unfolding handed_text
returns-in-Some c = let both = put_then c.put_bytes-a.ensures.0 (omega arith) c.put_telegram.ensures.0 in
    (subst (λ h. Put c.args.out.now c.args.at (handed_text h) c.put_telegram.new.out c.put_telegram.result) (sym c.in-Some.is) both, omega arith)
