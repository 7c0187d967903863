-- The state is one of the sheet's, the buffers keep their lengths, less than an event is kept, and no more events were taken than
-- may be. What falls is how many bytes may still come.
use Rattle.std.proofs.Common.{◌≡◌, ◌*◌, ◌-◌, ◌<◌, ◌≤◌, length}
use Rattle.machine.specs.Play.{words_of_event}
use Rattle.machine.specs.Valid.{OfSheet}
use Rattle.machine_lists.specs.Words.{words_of_answer}
use Rattle.program_input.specs.Input.{room_events, bytes_of_event}
use Rattle.program_events.specs.Room.{room_text}
use Rattle.program_events.proofs.play_events.Given as goal

abbrev pub invariant-loop-done : goal.invariant-loop-done
invariant-loop-done g l =
    OfSheet l.yard.sheet.sheet.now l.st × (length l.st ≡ length l.initial.st) × (length l.spare ≡ length l.initial.spare) × (length l.events ≡ room_events * bytes_of_event)
    × (length l.words ≡ room_events * words_of_event) × (length l.answers ≡ room_events * words_of_answer) × (length l.out ≡ room_text) × (l.have < bytes_of_event) × (l.done ≤ l.most)

abbrev pub decreases-loop-done : goal.decreases-loop-done
decreases-loop-done g l = bytes_of_event * (l.most - l.done) - l.have
