use Prim.Native.Nat.{◌-◌}
use mathlib.Core.Path.{sym, ap, ◌∙◌}
use native.Mathlib.Omega.{arith}
use Rattle.engine_cells.proofs.Laws.{externals_by}
use Rattle.engine_bodies.proofs.Laws.{not_external, few-elements, few-cells, few-parameters, few_variables, ready, root-statement, body-ran}
use Rattle.engine_bodies.proofs.run_body.Goals as goal

pub overflow_sub-i : goal.overflow_sub-i
overflow_sub-i c = let x = externals_by _ _ c.field_at.ensures.0 in
    let l = not_external c.args.yard.now.passed c.requires.0 in
    omega arith

pub overflow_mul-k : goal.overflow_mul-k
overflow_mul-k c = record { fits = omega (arith, few-elements c.args.yard.now.passed c.requires.0) }

pub overflow_add-k : goal.overflow_add-k
overflow_add-k c = record { fits = omega (arith, few-elements c.args.yard.now.passed c.requires.0) }

pub offset_bounds-yard-i : goal.offset_bounds-yard-i
offset_bounds-yard-i c = record { fits = omega (arith, few-elements c.args.yard.now.passed c.requires.0) }

pub bounds-yard-i : goal.bounds-yard-i
bounds-yard-i c = omega (arith, few-elements c.args.yard.now.passed c.requires.0)

pub context-context-requires : goal.context-context-requires
context-context-requires c = let l = few-elements c.args.yard.now.passed c.requires.0 in
    (omega arith, few-cells c.args.yard.now.passed c.requires.0)

pub fresh_locals-locals-requires : goal.fresh_locals-locals-requires
fresh_locals-locals-requires c = let h = c.requires.0 in
    let is = c.in-Some.is in
    let body = sym c.record.ensures ∙ is in
    (few-parameters c.args.yard.now.passed h _ body, few_variables c.args.yard.now.passed h _ body)

pub run-requires : goal.run-requires
run-requires c = let h = c.requires.0 in
    let is = c.in-Some.is in
    let body = sym c.record.ensures ∙ is in
    let first = externals_by _ _ c.field_at.ensures.0 in
    let row = ap (λ x. c.args.e - x) first in
    let numbers = c.context-context.ensures in
    let ready-now = ready c.args.yard.now.passed h _ body c.args.yard.now.table _ row _ numbers _ c.fresh_locals-locals.ensures in
    (ready-now, root-statement c.args.yard.now.passed h _ body c.args.yard.now.table _ row _ numbers, omega arith)

pub returns : goal.returns
returns c = let h = c.requires.0 in
    let is = c.in-Some.is in
    let body = sym c.record.ensures ∙ is in
    let first = externals_by _ _ c.field_at.ensures.0 in
    let row = ap (λ x. c.args.e - x) first in
    let numbers = c.context-context.ensures in
    let locals = c.fresh_locals-locals.ensures in
    body-ran c.args.yard.now.passed h _ body c.args.yard.now.table _ row _ numbers _ _ _ _ _ locals c.requires.1 c.run.ensures.1
