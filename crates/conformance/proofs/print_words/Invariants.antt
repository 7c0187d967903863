-- Behind the text there is room for the line's end.
use Rattle.std.proofs.Common.{◌≡◌, ◌+◌, ◌≤◌, length}
use Rattle.conformance.proofs.print_words.Given as goal

abbrev pub invariant-loop-z : goal.invariant-loop-z
invariant-loop-z g l = (length l.out ≡ 32768) × (l.at + 1 ≤ 32768)
