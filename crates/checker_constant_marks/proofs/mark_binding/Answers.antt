use native.Mathlib.Omega.{arith}
use mathlib.Core.Path.{sym, ◌∙◌}
use Rattle.sheet.proofs.All.{true_false}
use Rattle.sheet.proofs.Sheet.{record_present, count_limit}
use Rattle.sheet_rules.proofs.Fields.{holds-present, holds_absent}
use mathlib.Core.Bool.{true}
use Rattle.checker_pass.proofs.Added.{few_added, many_added}
use Rattle.checker_constant_marks.proofs.mark_binding.Goals as goal

pub prove-unreachable-requires : goal.prove-unreachable-requires
prove-unreachable-requires c = absurd
    (let there = record_present _ 7 _ c.requires.k_bound in
    let none = sym c.record.ensures ∙ c.in_default.is in
    true_false (holds-present _ _ (λ b. true) there) (holds_absent _ (λ b. true) none))

pub mark_constants-requires : goal.mark_constants-requires
mark_constants-requires c = record { count_in_bounds = c.requires.count_in_bounds; n_bound = c.field_at-total.ensures.1 }

pub shape_of-marks-then-total-le7 : goal.shape_of-marks-then-total-le7
shape_of-marks-then-total-le7 c = c.mark_constants.ensures.kept.long

pub returns-then-total-le7 : goal.returns-then-total-le7
returns-then-total-le7 c = let is = c.in-Some.is in
    let there = sym c.record.ensures ∙ is in
    let total = c.field_at-total.ensures.0 in
    few_added _ _ _ there _ total _ _ _ c.if-total-le7.true c.mark_constants.ensures

pub mark_constants-requires-2 : goal.mark_constants-requires-2
mark_constants-requires-2 c = record { count_in_bounds = c.requires.count_in_bounds; n_bound = omega arith }

pub overflow_add-k : goal.overflow_add-k
overflow_add-k c = record { fits = omega (arith, c.requires.k_bound, count_limit c.args.sheet.now.sheet.now 7) }

pub mark_second-more-requires : goal.mark_second-more-requires
mark_second-more-requires c = let kept = c.mark_constants-2.ensures.kept.long in
    record { count_in_bounds = omega (arith, kept, c.requires.count_in_bounds); n_bound = omega (arith, c.field_at-total.ensures.1) }

pub overflow_add-result : goal.overflow_add-result
overflow_add-result c = record { fits = omega (arith, c.mark_second-more.ensures.1) }

pub shape_of-marks : goal.shape_of-marks
shape_of-marks c = c.mark_second-more.ensures.2.kept.long ∙ c.mark_constants-2.ensures.kept.long

pub returns : goal.returns
returns c = let is = c.in-Some.is in
    let there = sym c.record.ensures ∙ is in
    let total = c.field_at-total.ensures.0 in
    let many = c.if-total-le7.false in
    let first = c.mark_constants-2.ensures in
    let second = c.mark_second-more.ensures in
    many_added _ _ _ there _ total many _ _ _ _ _ second.0 second.1 first second.2
