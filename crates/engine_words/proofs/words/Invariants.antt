use mathlib.Core.Path.{◌≡◌}
use lib.ListN.{length, take}
use Rattle.engine_words.specs.Words.{words_at}
use Rattle.engine_words.proofs.words.Given as goal

abbrev pub invariant-loop-i : goal.invariant-loop-i
invariant-loop-i l = (length l.out ≡ length l.initial.out) × (take l.i l.out ≡ words_at l.bytes l.at l.i)
