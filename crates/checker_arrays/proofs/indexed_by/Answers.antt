use native.Mathlib.Omega.{arith}
use native.Mathlib.Decide.{dec_lt}
use Prim.Native.Nat.{ℕ, ◌<◌}
use mathlib.Core.Path.{◌≡◌, refl, sym, ap, ◌∙◌}
use mathlib.Core.Bool.{false}
use mathlib.Core.List.{List}
use Rattle.sheet.specs.Table.{look_up}
use Rattle.sheet_rules.specs.declared.Typed.{Typed}
use Rattle.sheet_rules.specs.Indices.{index_of}
use Rattle.sheet_rules.specs.Types.{indexed_by}
use Rattle.sheet_indices.proofs.Laws.{index_none, index_enumerated, index_number, index_past_lem}
use Rattle.checker_arrays.proofs.Laws.{indexed_absent, indexed}
use Rattle.checker_arrays.proofs.indexed_by.Goals as goal

-- 0 and 4 to 7
no-type : (s : List ℕ) (i : ℕ) (x : Typed) → i < 8 → (i ≡ 1 → ⊥) → (i ≡ 2 → ⊥) → (i ≡ 3 → ⊥) → false ≡ indexed_by (index_of s i) x
unfolding indexed_by index_of look_up
no-type s i x l n₁ n₂ n₃ = elim (dec_lt i 4) [
  | yes k ↦ let zero : i ≡ 0 = omega arith in sym (ap (λ i. indexed_by (index_of s i) x) zero)
  | no k ↦ sym (ap (λ k. indexed_by k x) (index_none s i (omega arith) l))
]

pub returns-in_default : goal.returns-in_default
returns-in_default c = indexed_absent _ _ _ (sym c.record.ensures ∙ c.in_default.is)

pub returns-in-1 : goal.returns-in-1
unfolding indexed_by index_of look_up
returns-in-1 c = indexed _ _ _ _ (sym c.record.ensures ∙ c.in-Some.is) _ _ (ap (index_of _) c.in-1.is) c.is_of.ensures

pub returns-in-2 : goal.returns-in-2
unfolding indexed_by index_of look_up
returns-in-2 c = indexed _ _ _ _ (sym c.record.ensures ∙ c.in-Some.is) _ _ (ap (index_of _) c.in-2.is) c.is_of-in-2.ensures

pub returns-in-3 : goal.returns-in-3
unfolding indexed_by index_of look_up
returns-in-3 c = indexed _ _ _ _ (sym c.record.ensures ∙ c.in-Some.is) _ _ (ap (index_of _) c.in-3.is) c.is_of-in-3.ensures

pub returns-in-8-to-60000 : goal.returns-in-8-to-60000
unfolding indexed_by
returns-in-8-to-60000 c = indexed _ _ _ _ (sym c.record.ensures ∙ c.in-Some.is) _ _ (index_enumerated _ _ c.in-8-to-60000.if-i-lt8-own.false c.in-8-to-60000.if-i-lt60001-own.true) c.is_of-in-8-to-60000.ensures

pub returns-in-60001-to-60064 : goal.returns-in-60001-to-60064
unfolding indexed_by
returns-in-60001-to-60064 c = indexed _ _ _ _ (sym c.record.ensures ∙ c.in-Some.is) _ _ (index_number _ _ c.in-60001-to-60064.if-i-lt60001-own.false c.in-60001-to-60064.if-i-lt60065-own.true) c.is_of-in-60001-to-60064.ensures

pub returns-in_default-i : goal.returns-in_default-i
returns-in_default-i c = indexed _ _ _ _ (sym c.record.ensures ∙ c.in-Some.is) _ _ refl (no-type _ _ _ c.in_default-i.if-i-lt8-own.true c.in_default-i.in_default-own.rest.0.0.1 c.in_default-i.in_default-own.rest.0.1 c.in_default-i.in_default-own.rest.1)

pub returns-in_default-i-2 : goal.returns-in_default-i-2
unfolding indexed_by
returns-in_default-i-2 c = indexed _ _ _ _ (sym c.record.ensures ∙ c.in-Some.is) _ _ (index_past_lem _ _ c.in_default-i.if-i-lt60065-own.false) refl
