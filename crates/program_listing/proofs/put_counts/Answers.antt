use native.Mathlib.Omega.{arith}
use Rattle.program_text.proofs.Laws.{put_then}
use Rattle.program_listing.specs.Listing.{counts_text}
use Rattle.program_listing.proofs.put_counts.Goals as goal

pub returns : goal.returns
unfolding counts_text
returns c = (put_then (put_then c.put_decimal-a.ensures.0 (omega arith) c.put-b.ensures.0) (omega arith) c.put_decimal.ensures.0, omega arith)
