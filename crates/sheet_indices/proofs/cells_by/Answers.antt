use native.Mathlib.Omega.{arith}
use Prim.Native.Nat.{ℕ}
use mathlib.Core.Path.{◌≡◌, refl, sym, ap, ◌∙◌}
use mathlib.Core.List.{List}
use Rattle.sheet.specs.Table.{look_up}
use Rattle.sheet_rules.specs.Fields.{field_of, field_at, components_of, ports_of, members_of}
use Rattle.sheet_rules.specs.Indices.{Index, index_of, cells_by}
use Rattle.sheet_indices.proofs.Laws.{index_none, index_enumerated, index_number, index_past_lem}
use Rattle.sheet_indices.proofs.cells_by.Goals as goal

module _ (s : List ℕ) (i n : ℕ) where
  by_index : (x : Index) → index_of s i ≡ x → n ≡ cells_by x → n ≡ cells_by (index_of s i)
  by_index x e p = p ∙ sym (ap cells_by e)

  by_number : (k : ℕ) → i ≡ k → n ≡ cells_by (index_of s k) → n ≡ cells_by (index_of s i)
  by_number k e p = by_index (index_of s k) (ap (index_of s) e) p

pub returns-in-0 : goal.returns-in-0
unfolding cells_by index_of look_up
returns-in-0 c = (by_number _ _ _ 0 c.in-0.is refl, omega arith)

pub returns-in-1 : goal.returns-in-1
unfolding cells_by index_of look_up
returns-in-1 c = (by_number _ _ _ 1 c.in-1.is refl, omega arith)

pub returns-in-2 : goal.returns-in-2
unfolding cells_by index_of look_up field_at field_of components_of
returns-in-2 c = (by_number _ _ _ 2 c.in-2.is c.field_at.ensures.0, c.field_at.ensures.1)

pub returns-in-3 : goal.returns-in-3
unfolding cells_by index_of look_up field_at field_of ports_of
returns-in-3 c = (by_number _ _ _ 3 c.in-3.is c.field_at-in-3.ensures.0, c.field_at-in-3.ensures.1)

pub returns-in-4-to-7 : goal.returns-in-4-to-7
unfolding cells_by
returns-in-4-to-7 c = (by_index _ _ _ _ (index_none _ _ (omega arith) c.in-4-to-7.if-i-lt8-own.true) refl, omega arith)

pub returns-in-8-to-60000 : goal.returns-in-8-to-60000
unfolding cells_by field_at field_of members_of
returns-in-8-to-60000 c = (by_index _ _ _ _ (index_enumerated _ _ c.in-8-to-60000.if-i-lt8-own.false c.in-8-to-60000.if-i-lt60001-own.true) c.field_at-in-8-to-60000.ensures.0, c.field_at-in-8-to-60000.ensures.1)

pub returns-in-60001-to-60064 : goal.returns-in-60001-to-60064
unfolding cells_by
returns-in-60001-to-60064 c = (by_index _ _ _ _ (index_number _ _ c.in-60001-to-60064.if-i-lt60001-own.false c.in-60001-to-60064.if-i-lt60065-own.true) refl, omega arith)

pub returns-in_default : goal.returns-in_default
unfolding cells_by
returns-in_default c = (by_index _ _ _ _ (index_past_lem _ _ c.in_default.if-i-lt60065-own.false) refl, omega arith)
