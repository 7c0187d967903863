use Prim.Native.Nat.{◌-◌}
use mathlib.Core.Path.{ap}
use native.Mathlib.Omega.{arith}
use Rattle.engine_cells.proofs.Laws.{externals_by, row_below, row_chart}
use Rattle.engine_cells.proofs.Yard.chart_number.Goals as goal

pub overflow_sub-i : goal.overflow_sub-i
overflow_sub-i c = omega (arith, externals_by _ _ c.field_at.ensures.0, (row_below _ c.args.self.now.passed _ c.requires).0)

pub overflow_mul-i : goal.overflow_mul-i
overflow_mul-i c = record { fits = omega (arith, externals_by _ _ c.field_at.ensures.0, (row_below _ c.args.self.now.passed _ c.requires).1) }

pub overflow_add-i : goal.overflow_add-i
overflow_add-i c = record { fits = omega (arith, externals_by _ _ c.field_at.ensures.0, (row_below _ c.args.self.now.passed _ c.requires).1) }

pub offset_bounds-self-i : goal.offset_bounds-self-i
offset_bounds-self-i c = record { fits = omega (arith, externals_by _ _ c.field_at.ensures.0, (row_below _ c.args.self.now.passed _ c.requires).1) }

pub bounds-self-i : goal.bounds-self-i
bounds-self-i c = omega (arith, externals_by _ _ c.field_at.ensures.0, (row_below _ c.args.self.now.passed _ c.requires).1)

pub returns : goal.returns
returns c = let row = ap (λ x. c.args.e - x) (externals_by _ _ c.field_at.ensures.0) in
    row_chart _ c.args.self.now.passed _ c.requires _ c.args.self.now.table _ _ row c.field_at-2.ensures.0
