-- The listing's lines, from events and their answers in words.
use Rattle.std.specs.Prelude.{ℕ, zero, suc, ◌+◌, ◌*◌, List, [], ◌++◌, ℤ}
use Rattle.machine.specs.State.{word_of}
use Rattle.machine.specs.Play.{words_of_event}
use Rattle.machine_lists.specs.Words.{words_of_answer, answer_in}
use Rattle.program_listing.specs.Listing.{event_line}

-- the lines of the first n events, before which `done` were listed
unfoldable pub lines_of : List ℤ → List ℤ → ℕ → ℕ → List ℕ
lines_of ws room done zero = []
lines_of ws room done (suc n) = lines_of ws room done n ++ event_line (done + n + 1) (word_of ws (words_of_event * n)) (answer_in room (words_of_answer * n))
