use Prim.Native.Nat.{◌+◌, ◌<◌}
use native.Mathlib.Omega.{arith}
use mathlib.Core.Path.{◌≡◌, sym, ap, subst, ◌∙◌}
use mathlib.Core.Bool.{true}
use Rattle.std.proofs.lemmas.Result.{err_from_is_err_and}
use Rattle.sheet_rules.specs.Fields.{field_at, field_of, externals_of, elements_of}
use Rattle.machine.specs.Values.{is_bound, chart_of}
use Rattle.machine_passed.proofs.Records.{cells_limit, components_limit, elements-rest}
use Rattle.machine_passed.proofs.Charts.{number_bound}
use Rattle.machine_events.proofs.Called.{has_chart}
use Rattle.engine_cells.proofs.Laws.{bound-below, chart_variables_lem}
use Rattle.engine_queue.specs.Changed.{changed_to}
use Rattle.engine_ticks.proofs.Laws.{then_refused, then_done, goes_on_lem}
use Rattle.engine_clocks.proofs.Onward.{after_first, from_first, from_here_lem, from_none_lem, element_now, element_next, element_row}
use Rattle.engine_clocks.proofs.slice.Goals as goal

pub loop-i-init : goal.loop-i-init
unfolding externals_of field_at field_of
loop-i-init c = (omega arith, c.field_at-first.ensures.0, c.elements-count.ensures.0, after_first _ _ _ c.requires, from_first _ _ _ _)

pub overflow_add-first : goal.overflow_add-first
overflow_add-first c = let s = c.args.yard.now.sheet.sheet.now in
    let ok = c.args.yard.now.passed in
    let l = c.loop-i-test.true in
    let f = c.loop-i.invariant.1 in
    let n = c.loop-i.invariant.2 in
    record { fits = omega (arith, elements-rest s ok, components_limit s ok) }

pub chart-requires : goal.chart-requires
chart-requires c = let i = c.loop-i.i in
    let s = c.args.yard.now.sheet.sheet.now in
    let l = c.loop-i-test.true in
    let f = c.loop-i.invariant.1 in
    let n = c.loop-i.invariant.2 in
    let m : i < elements_of s = omega arith in
    subst (λ x. is_bound s (x + i) ≡ true) (sym f) (number_bound s i m)

pub prove-unreachable-requires : goal.prove-unreachable-requires
prove-unreachable-requires c = absurd
    (let i = c.loop-i.i in
    let s = c.args.yard.now.sheet.sheet.now in
    let l = c.loop-i-test.true in
    let f = c.loop-i.invariant.1 in
    let n = c.loop-i.invariant.2 in
    let m : i < elements_of s = omega arith in
    let none = sym c.chart.ensures ∙ c.in_default.is in
    has_chart s c.args.yard.now.passed _ (number_bound s i m) (ap (λ x. chart_of s (x + i)) (sym f) ∙ none))

pub overflow_add-first-in-loop-i : goal.overflow_add-first-in-loop-i
overflow_add-first-in-loop-i c = let s = c.args.yard.now.sheet.sheet.now in
    let ok = c.args.yard.now.passed in
    let l = c.loop-i-test.true in
    let f = c.loop-i.invariant.1 in
    let n = c.loop-i.invariant.2 in
    record { fits = omega (arith, elements-rest s ok, components_limit s ok) }

pub overflow_mul-i : goal.overflow_mul-i
overflow_mul-i c = let s = c.args.yard.now.sheet.sheet.now in
    let ok = c.args.yard.now.passed in
    let l = c.loop-i-test.true in
    let n = c.loop-i.invariant.2 in
    record { fits = omega (arith, bound-below s ok) }

pub slice_cells-requires : goal.slice_cells-requires
slice_cells-requires c = let i = c.loop-i.i in
    let inv = c.loop-i.invariant in
    let s = c.args.yard.now.sheet.sheet.now in
    let ok = c.args.yard.now.passed in
    let l = c.loop-i-test.true in
    let f = inv.1 in
    let n = inv.2 in
    let there = sym c.chart.ensures ∙ c.in-Some.is in
    let p = ap (λ x. chart_of s (x + i)) (sym f) ∙ there in
    let few = chart_variables_lem s ok _ _ p in
    let now = element_now s _ _ _ f p ok _ _ c.requires inv.3 in
    let row = element_row s _ _ _ f p _ c.args.yard.now.table in
    (omega (arith, elements-rest s ok, components_limit s ok), omega (arith, bound-below s ok, few), cells_limit s ok, now, row)

pub returns-in_err-slice_cells : goal.returns-in_err-slice_cells
returns-in_err-slice_cells c = let inv = c.loop-i.invariant in
    let i = c.loop-i.i in
    let s = c.args.yard.now.sheet.sheet.now in
    let l = c.loop-i-test.true in
    let f = inv.1 in
    let n = inv.2 in
    let m : i < elements_of s = omega arith in
    let is = c.in-Some.is in
    let there = sym c.chart.ensures ∙ is in
    let p = ap (λ x. chart_of s (x + i)) (sym f) ∙ there in
    inv.4 ∙ from_here_lem s _ _ _ f p _ _ m ∙ (let p = err_from_is_err_and c.from_residual.result c.from_residual.ensures.1 in rw (p.1, p.2) (then_refused _ _ _ _ _ c.in_err-slice_cells.ensures))

pub loop-i-preserved : goal.loop-i-preserved
loop-i-preserved c = let inv = c.loop-i.invariant in
    let i = c.loop-i.i in
    let s = c.args.yard.now.sheet.sheet.now in
    let l = c.loop-i-test.true in
    let f = inv.1 in
    let n = inv.2 in
    let m : i < elements_of s = omega arith in
    let is = c.in-Some.is in
    let there = sym c.chart.ensures ∙ is in
    let p = ap (λ x. chart_of s (x + i)) (sym f) ∙ there in
    let ran = c.in_ok-slice_cells.ensures in
    let after = element_next s _ _ _ f p _ _ _ inv.3 (goes_on_lem _ _ _ ran) in
    (omega arith, f, n, after, inv.4 ∙ from_here_lem s _ _ _ f p _ _ m ∙ then_done _ _ _ _ ran)

pub returns : goal.returns
unfolding changed_to
returns c = let l = c.loop-i-test.false in
    let n = c.loop-i.invariant.2 in
    c.loop-i.invariant.4 ∙ from_none_lem _ _ _ _ _ (omega arith)
