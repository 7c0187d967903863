use Prim.Native.Nat.{◌+◌, ◌*◌, ◌-◌, ◌≤◌}
use mathlib.Core.Path.{◌≡◌}
use mathlib.Core.Bool.{true}
use Rattle.sheet.specs.All.{all_below}
use Rattle.sheet_rules.specs.Types.{lower_type, type_of}
use Rattle.checker_typing.proofs.Laws.{datum_matches}
use Rattle.checker_typing.proofs.+data_match_operand_type_type_of.Given as goal

abbrev pub decreases-data_match : goal.decreases-data_match
decreases-data_match l = 3 * l.n + 1

abbrev pub decreases-operand_type : goal.decreases-operand_type
decreases-operand_type l = 3 * l.n

abbrev pub decreases-type_of : goal.decreases-type_of
decreases-type_of l = 3 * l.n + 2

abbrev pub invariant-data_match-loop-j : goal.invariant-data_match-loop-j
invariant-data_match-loop-j l = (l.j ≤ l.count) × (all_below l.j (datum_matches l.sheet.sheet.now (lower_type l.n (type_of l.sheet.sheet.now l.c l.b)) l.first l.r) ≡ true)
