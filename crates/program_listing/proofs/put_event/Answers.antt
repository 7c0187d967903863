use native.Mathlib.Omega.{arith}
use Rattle.program_text.proofs.Laws.{put_then}
use Rattle.program_listing.specs.Listing.{event_line}
use Rattle.program_listing.proofs.put_event.Goals as goal

pub returns : goal.returns
unfolding event_line
returns c = let counts = put_then (put_then c.put_decimal-b.ensures.0 (omega arith) c.put-c.ensures.0) (omega arith) c.put_counts-d.ensures.0 in
    (put_then (put_then counts (omega arith) c.put_handed-e.ensures.0) (omega arith) c.put.ensures.0, omega arith)
