use mathlib.Core.Path.{sym, ◌∙◌}
use Prim.Native.Nat.{ℕ}
use lib.Dec.{eqb}
use Rattle.sheet.specs.declared.Record.{Record}
use Rattle.sheet.specs.Names.{root}
use Rattle.sheet_rules.specs.Fields.{one_if}
use Rattle.checker_pass.proofs.Added.{over_absent, over-present}
use Rattle.checker_marks.proofs.mark_root.Goals as goal

pub returns-in_default : goal.returns-in_default
returns-in_default c = over_absent _ _ _ _ (λ (b : Record) (n : ℕ). one_if (eqb (root b) n)) (sym c.record.ensures ∙ c.in_default.is)

pub returns : goal.returns
returns c = over-present _ _ _ _ _ _ (λ (b : Record) (n : ℕ). one_if (eqb (root b) n)) (sym c.record.ensures ∙ c.in-Some.is) c.mark.ensures
