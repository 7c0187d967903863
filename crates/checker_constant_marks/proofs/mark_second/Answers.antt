use Prim.Native.Nat.{ℕ}
use mathlib.Core.Path.{sym, ◌∙◌}
use Rattle.sheet.specs.declared.Record.{Record}
use Rattle.checker_pass.specs.Marks.{constants_named}
use Rattle.checker_pass.proofs.Added.{over_absent, over-present}
use Rattle.checker_constant_marks.proofs.mark_second.Goals as goal

pub returns-in_default : goal.returns-in_default
returns-in_default c = over_absent _ _ _ _ (λ (b : Record) (m : ℕ). constants_named b c.args.n m) (sym c.record.ensures ∙ c.in_default.is)

pub mark_constants-requires : goal.mark_constants-requires
mark_constants-requires c = record { count_in_bounds = c.requires.count_in_bounds; n_bound = c.requires.n_bound }

pub shape_of-marks : goal.shape_of-marks
shape_of-marks c = c.mark_constants.ensures.kept.long

pub returns : goal.returns
returns c = let n = c.args.n in
    let is = c.in-Some.is in
    let there = sym c.record.ensures ∙ is in
    over-present _ _ _ _ _ _ (λ (b : Record) (m : ℕ). constants_named b n m) there c.mark_constants.ensures
