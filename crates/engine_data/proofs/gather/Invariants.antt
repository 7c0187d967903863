use Rattle.engine_data.proofs.Four.{SoFar}
use Rattle.engine_data.proofs.gather.Given as goal

abbrev pub invariant-loop-j : goal.invariant-loop-j
invariant-loop-j l = SoFar l.sheet.sheet.now l.context l.st l.lo l.r l.fn.g l.left l.j l.l l.words
