-- Room for so many events in words, and for their answers.
use Prim.Native.Nat.{ℕ, ◌+◌, ◌*◌, ◌/◌, ◌≤◌}
use mathlib.Core.Path.{◌≡◌}
use mathlib.Core.List.{List}
use native.Mathlib.Omega.{arith}
use lib.ListN.{length, take}
use lib.Seq.{length-take-le}
use lib.IntN.{ℤ}
use Rattle.machine.specs.Play.{words_of_event}
use Rattle.machine_lists.specs.Words.{words_of_answer}
use Rattle.program_input.specs.Input.{room_events, bytes_of_event}

pub words_room : (ws : List ℤ) (count bytes : ℕ) → length ws ≡ room_events * words_of_event → count ≤ room_events → bytes_of_event * count ≤ bytes → 0 + 4 * length (take (words_of_event * count) ws) ≤ bytes
words_room ws count bytes h l m = omega (arith, length-take-le (words_of_event * count) ws (omega arith))

pub answers_room : (ws rest : List ℤ) (count : ℕ) → words_of_event * count ≤ length ws → words_of_answer * count ≤ length rest → length (take (words_of_answer * count) rest) ≡ words_of_answer * (length (take (words_of_event * count) ws) / words_of_event)
answers_room ws rest count h k = omega (arith, length-take-le (words_of_event * count) ws h, length-take-le (words_of_answer * count) rest k)
