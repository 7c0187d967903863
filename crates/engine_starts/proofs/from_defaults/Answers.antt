use Rattle.std.specs.Prelude.{Err}
use mathlib.Core.Path.{refl, sym, ap, subst, ◌∙◌}
use native.Mathlib.Omega.{arith}
use borrow.Author.Rules.{rules}
use Rattle.machine.specs.Valid.{OfSheet}
use Rattle.engine_ints.specs.Work.{ran_of}
use Rattle.machine_states.proofs.Default.{default_of_sheet}
use Rattle.machine_events.proofs.Begins.{begins, ends, few, here_bound, not_stuck, done_left, done_kept_lem, done_next, refused-left, refused_ends}
use Rattle.engine_starts.proofs.from_defaults.Goals as goal

pub loop-i-init : goal.loop-i-init
loop-i-init c = let ok = c.args.yard.now.passed in
    let p = c.externals-first.ensures.0 in
    let q = c.elements-count.ensures.0 in
    let defaults = c.default_state.ensures in
    let of-sheet = subst (OfSheet _) (sym defaults) (default_of_sheet _ ok) in
    (of-sheet, omega arith, begins _ ok _ _ _ (omega arith) (omega arith) defaults)

pub overflow_add-first : goal.overflow_add-first
overflow_add-first c = let p = c.externals-first.ensures.0 in
    let q = c.elements-count.ensures.0 in
    let m = c.limit-most.ensures.0 in
    let l = c.loop-i-test.true in
    let f = few _ c.args.yard.now.passed _ _ _ _ p q m l in
    record { fits = omega arith }

pub initial-requires : goal.initial-requires
initial-requires c = let p = c.externals-first.ensures.0 in
    let q = c.elements-count.ensures.0 in
    let m = c.limit-most.ensures.0 in
    let l = c.loop-i-test.true in
    let o = c.loop-i.invariant.0 in
    (o, here_bound _ c.args.yard.now.passed _ _ _ _ p q m l, m)

pub overflow_sub-steps : goal.overflow_sub-steps
overflow_sub-steps c = let ok = c.args.yard.now.passed in
    let p = c.externals-first.ensures.0 in
    let q = c.elements-count.ensures.0 in
    let m = c.limit-most.ensures.0 in
    let l = c.loop-i-test.true in
    let o = c.loop-i.invariant.0 in
    let ran = c.in-Ok.ensures in
    let h = done_left _ ok _ _ _ _ p q m l _ o _ _ ran.0 ran.1 _ refl in
    search rules

pub overflow_add-steps : goal.overflow_add-steps
overflow_add-steps c = let ok = c.args.yard.now.passed in
    let p = c.externals-first.ensures.0 in
    let q = c.elements-count.ensures.0 in
    let m = c.limit-most.ensures.0 in
    let z = c.limit-most.ensures.1 in
    let l = c.loop-i-test.true in
    let o = c.loop-i.invariant.0 in
    let w = c.loop-i.invariant.1 in
    let ran = c.in-Ok.ensures in
    let f = few _ ok _ _ _ _ p q m l in
    let h = done_left _ ok _ _ _ _ p q m l _ o _ _ ran.0 ran.1 _ refl in
    record { fits = omega arith }

pub overflow_sub-most : goal.overflow_sub-most
overflow_sub-most c = let ok = c.args.yard.now.passed in
    let p = c.externals-first.ensures.0 in
    let q = c.elements-count.ensures.0 in
    let m = c.limit-most.ensures.0 in
    let l = c.loop-i-test.true in
    let o = c.loop-i.invariant.0 in
    let ran = c.in-Err-Refused.ensures in
    let h = refused-left _ ok _ _ _ _ p q m l _ o _ _ ran.0 ran.1 _ _ (ap (λ d. ran_of (Err d)) c.in-Err-Refused.field-0-is) in
    search rules

pub overflow_add-steps-in-Err-Refused : goal.overflow_add-steps-in-Err-Refused
overflow_add-steps-in-Err-Refused c = let ok = c.args.yard.now.passed in
    let p = c.externals-first.ensures.0 in
    let q = c.elements-count.ensures.0 in
    let m = c.limit-most.ensures.0 in
    let z = c.limit-most.ensures.1 in
    let l = c.loop-i-test.true in
    let o = c.loop-i.invariant.0 in
    let w = c.loop-i.invariant.1 in
    let ran = c.in-Err-Refused.ensures in
    let f = few _ ok _ _ _ _ p q m l in
    let h = refused-left _ ok _ _ _ _ p q m l _ o _ _ ran.0 ran.1 _ _ (ap (λ d. ran_of (Err d)) c.in-Err-Refused.field-0-is) in
    record { fits = omega arith }

pub shape_of-st-in-Err-Refused : goal.shape_of-st-in-Err-Refused
shape_of-st-in-Err-Refused c = let whole = c.loop-i.invariant.0.whole in
    let long = sym c.requires in
    c.st-in-Err-Refused-1.given ∙ c.st-in-loop-i-1.given ∙ whole ∙ long

pub returns-in-Err-Refused : goal.returns-in-Err-Refused
returns-in-Err-Refused c = let ok = c.args.yard.now.passed in
    let p = c.externals-first.ensures.0 in
    let q = c.elements-count.ensures.0 in
    let m = c.limit-most.ensures.0 in
    let l = c.loop-i-test.true in
    let inv = c.loop-i.invariant in
    let ran = c.in-Err-Refused.ensures in
    let left = ap (λ d. ran_of (Err d)) c.in-Err-Refused.field-0-is in
    let whole = c.st-in-loop-i-1.given ∙ inv.0.whole in
    let zeros = c.refused.ensures in
    refused_ends _ ok _ _ _ _ p q m l _ inv.0 _ _ ran.0 ran.1 _ inv.2 _ _ left _ _ zeros.1 whole _ zeros.0

pub unreachable-requires : goal.unreachable-requires
unreachable-requires c = let p = c.externals-first.ensures.0 in
    let q = c.elements-count.ensures.0 in
    let m = c.limit-most.ensures.0 in
    let ran = c.in-Err-Stuck.ensures in
    not_stuck _ c.args.yard.now.passed _ _ _ _ p q m c.loop-i-test.true _ c.loop-i.invariant.0 _ _ ran.0 ran.1 (ap (λ d. ran_of (Err d)) c.in-Err-Stuck.field-0-is)

pub loop-i-preserved : goal.loop-i-preserved
loop-i-preserved c = let ok = c.args.yard.now.passed in
    let p = c.externals-first.ensures.0 in
    let q = c.elements-count.ensures.0 in
    let m = c.limit-most.ensures.0 in
    let z = c.limit-most.ensures.1 in
    let l = c.loop-i-test.true in
    let inv = c.loop-i.invariant in
    let w = inv.1 in
    let ran = c.in-Ok.ensures in
    let f = few _ ok _ _ _ _ p q m l in
    let kept = done_kept_lem _ ok _ _ _ _ p q m l _ inv.0 _ _ ran.0 ran.1 _ refl in
    let next = done_next _ ok _ _ _ _ p q m l _ inv.0 _ _ ran.0 ran.1 _ inv.2 _ refl in
    (kept, omega arith, next)

pub shape_of-st : goal.shape_of-st
shape_of-st c = c.loop-i.invariant.0.whole ∙ sym c.requires

pub returns : goal.returns
returns c = let m = c.loop-i-test.false in
    ends _ _ _ _ _ _ (omega arith) c.answered.ensures ∙ sym c.loop-i.invariant.2
