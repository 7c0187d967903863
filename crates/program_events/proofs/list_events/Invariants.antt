-- The lines of the events so far are written or wait in the buffer, which has room for one more.
use Rattle.std.proofs.Common.{◌+◌, ◌≤◌, ◌≡◌, length}
use Rattle.program_listing.specs.Listing.{longest_line}
use Rattle.program_events.specs.Room.{room_text}
use Rattle.program_events.specs.Lines.{lines_of}
use Rattle.program_events.proofs.Pending.{Pending}
use Rattle.program_events.proofs.list_events.Given as goal

abbrev pub invariant-loop-i : goal.invariant-loop-i
invariant-loop-i g l = (length l.out ≡ length l.initial.out) × (l.at + longest_line ≤ room_text) × (l.i ≤ l.count) × Pending (g.W.Write.contents l.initial.to) (g.W.Write.contents l.to) (lines_of l.words l.answers l.done l.i) l.at l.out
