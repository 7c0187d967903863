use native.Mathlib.Omega.{arith}
use Rattle.program_text.proofs.Laws.{put_then}
use Rattle.program_listing.specs.Listing.{start_line}
use Rattle.program_listing.proofs.put_start.Goals as goal

pub returns : goal.returns
unfolding start_line
returns c = (put_then (put_then c.put_bytes-a.ensures.0 (omega arith) c.put_counts-b.ensures.0) (omega arith) c.put.ensures.0, omega arith)
