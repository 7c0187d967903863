use Prim.Native.Nat.{suc, ◌+◌, ◌*◌, ◌≤◌}
use mathlib.Core.Path.{◌≡◌}
use lib.ListN.{length}
use Rattle.sheet_rules.specs.Forms.{loop}
use Rattle.machine.specs.Run.{run_of}
use Rattle.engine_ready.specs.Ready.{context_at}
use Rattle.engine_data.specs.Visit.{Visit}
use Rattle.engine_statements.proofs.+call_enter_repeat_run.Given as goal

abbrev pub decreases-call : goal.decreases-call
decreases-call l = 3 * l.left + 2

abbrev pub decreases-enter : goal.decreases-enter
decreases-enter l = 3 * l.left + 1

abbrev pub decreases-repeat : goal.decreases-repeat
decreases-repeat l = 3 * l.left + 2

abbrev pub decreases-run : goal.decreases-run
decreases-run l = 3 * l.left

abbrev pub invariant-repeat-loop-word : goal.invariant-repeat-loop-word
invariant-repeat-loop-word l = Visit l.sheet.sheet.now l.context l.st l.lo l.n l.r loop × (run_of l.sheet.sheet.now l.depth (context_at l.sheet.sheet.now l.context) l.n (suc l.left) l.initial.st l.initial.lo ≡ run_of l.sheet.sheet.now l.depth (context_at l.sheet.sheet.now l.context) l.n (suc l.l) l.st l.lo) × (l.l ≤ l.left) × (length l.st ≡ length l.initial.st) × (length l.lo ≡ length l.initial.lo)

abbrev pub decreases-repeat-loop-word : goal.decreases-repeat-loop-word
decreases-repeat-loop-word l = l.l
