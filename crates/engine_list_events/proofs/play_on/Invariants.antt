use Prim.Native.Nat.{◌*◌, ◌/◌, ◌-◌, ◌≤◌}
use mathlib.Core.Path.{◌≡◌}
use lib.ListN.{length, take}
use Rattle.machine.specs.Play.{words_of_event, limit_of}
use Rattle.machine.specs.Lists.{events_of}
use Rattle.machine.specs.Valid.{OfSheet}
use Rattle.machine_lists.specs.Words.{words_of_answer, events_from, in_words}
use Rattle.engine_list_events.proofs.Laws.{behind, rest}
use Rattle.engine_list_events.proofs.play_on.Given as goal

abbrev pub invariant-loop-i : goal.invariant-loop-i
invariant-loop-i l = OfSheet l.yard.sheet.sheet.now l.st × (length l.st ≡ length l.initial.st) × (length l.spare ≡ length l.initial.spare) × (length l.answers ≡ length l.initial.answers) × (l.i ≤ l.count) × (l.count ≡ length l.events / words_of_event) × (in_words (events_of l.yard.sheet.sheet.now (limit_of l.yard.sheet.sheet.now) l.initial.st (events_from l.events l.count 0)) ≡ behind (take (words_of_answer * l.i) l.answers) (rest l.yard.sheet.sheet.now l.events l.count l.i l.st))
