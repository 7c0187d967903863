use native.Mathlib.Omega.{arith}
use Prim.Native.Nat.{ℕ, ◌≤◌, ◌<◌}
use mathlib.Core.Path.{◌≡◌, refl, sym, ap, ◌∙◌}
use mathlib.Core.List.{List}
use native.Mathlib.Decide.{dec_lt}
use Rattle.sheet.specs.declared.Record.{Record}
use Rattle.sheet.specs.Table.{look_up}
use Rattle.sheet.proofs.All.{below_is_lem}
use Rattle.sheet.proofs.Table.{beyond}
use Rattle.sheet_rules.specs.declared.Operands.{Operands}
use Rattle.sheet_rules.specs.Fields.{field_of, field_at}
use Rattle.sheet_rules.specs.Forms.{Form, binary, external_send, internal_send, arm, form_of, name_data, operands, operands_in, operands_of}
use Rattle.sheet_rules.proofs.Forms.{form-literal, form-binary, form-clock, form-arm, form-clock_act, form-unknown}
use Rattle.sheet_fields.proofs.operands.Goals as goal

module _ (s : List ℕ) (c r : Record) where
  of-form : (f : Form) (o : Operands) → form_of r.f0 ≡ f → operands_in s c r f ≡ o → o ≡ operands_of s c r
  unfolding operands_of
  of-form f o e p = sym (ap (operands_in s c r) e ∙ p)

  of_number : (n : ℕ) (o : Operands) → r.f0 ≡ n → operands_in s c r (form_of n) ≡ o → o ≡ operands_of s c r
  of_number n o e p = of-form (form_of n) o (ap form_of e) p

  of-name : (f : Form) (first count x : ℕ) → form_of r.f0 ≡ f → operands_in s c r f ≡ operands first count (name_data s r) → x ≡ field_at s 3 r.f3 1 → operands first count x ≡ operands_of s c r
  unfolding name_data field_at field_of
  of-name f first count x e p q = of-form f (operands first count x) e (p ∙ ap (operands first count) (sym q))

  none-below-8 : r.f0 < 8 → operands 1 0 0 ≡ operands_of s c r
  unfolding operands_in form_of look_up
  none-below-8 h = elim (dec_lt r.f0 1) [
    | yes l ↦ of-form _ _ (form-unknown r.f0 (λ a b. omega arith) (λ a b. omega arith)) refl
    | no g ↦ elim (dec_lt r.f0 7) [ yes l ↦ of-form _ _ (form-literal r.f0 (omega arith) (omega arith)) refl | no k ↦ of_number 7 _ (omega arith) refl ]
  ]

  none-17-to-32 : 17 ≤ r.f0 → r.f0 < 33 → (r.f0 ≡ 19 → ⊥) → operands 1 0 0 ≡ operands_of s c r
  unfolding operands_in form_of look_up
  none-17-to-32 h k d = elim (dec_lt r.f0 19) [
    | yes l ↦ of-form _ _ (form-clock r.f0 h (omega arith)) refl
    | no m ↦ elim (dec_lt r.f0 32) [ yes l ↦ of-form _ _ (form-unknown r.f0 (λ a b. omega arith) (λ a b. omega arith)) refl | no j ↦ of_number 32 _ (omega arith) refl ]
  ]

  none-38-39 : 38 ≤ r.f0 → r.f0 < 40 → operands 1 0 0 ≡ operands_of s c r
  unfolding operands_in
  none-38-39 h k = of-form _ _ (form-clock_act r.f0 h (omega arith)) refl

  none-from-45 : 44 ≤ r.f0 → (r.f0 ≡ 44 → ⊥) → operands 1 0 0 ≡ operands_of s c r
  unfolding operands_in
  none-from-45 h d = of-form _ _ (form-unknown r.f0 (λ a b. omega arith) (λ a b. omega arith)) refl

  two-42-43 : 42 ≤ r.f0 → r.f0 ≤ 43 → operands 1 2 0 ≡ operands_of s c r
  unfolding operands_in form_of look_up
  two-42-43 h k = elim (dec_lt r.f0 43) [ yes l ↦ of_number 42 _ (omega arith) refl | no g ↦ of_number 43 _ (omega arith) refl ]

pub returns-in-8 : goal.returns-in-8
unfolding operands_in form_of look_up
returns-in-8 c = (of_number _ _ _ 8 _ c.in-8.is refl, record { first = omega arith; count = omega arith; tail = omega arith })

pub returns-in-19 : goal.returns-in-19
unfolding operands_in form_of look_up
returns-in-19 c = (of_number _ _ _ 19 _ c.in-19.is refl, record { first = omega arith; count = omega arith; tail = omega arith })

pub returns-in-33 : goal.returns-in-33
unfolding operands_in form_of look_up
returns-in-33 c = (of_number _ _ _ 33 _ c.in-33.is refl, record { first = omega arith; count = omega arith; tail = omega arith })

pub returns-in-34 : goal.returns-in-34
unfolding operands_in form_of look_up
returns-in-34 c = (of-name _ _ _ external_send 1 2 _ (ap form_of c.in-34.is) refl c.field_at-tail.ensures.0, record { first = omega arith; count = omega arith; tail = c.field_at-tail.ensures.1 })

pub returns-in-35 : goal.returns-in-35
unfolding operands_in form_of look_up
returns-in-35 c = (of-name _ _ _ internal_send 1 0 _ (ap form_of c.in-35.is) refl c.field_at-tail-in-35.ensures.0, record { first = omega arith; count = omega arith; tail = c.field_at-tail-in-35.ensures.1 })

pub returns-in-40 : goal.returns-in-40
unfolding operands_in form_of look_up
returns-in-40 c = (of_number _ _ _ 40 _ c.in-40.is (ap (operands 1 0) (sym c.call_data-tail.ensures.0)), record { first = omega arith; count = omega arith; tail = c.call_data-tail.ensures.1 })

pub returns-in-41 : goal.returns-in-41
unfolding operands_in form_of look_up
returns-in-41 c = (of_number _ _ _ 41 _ c.in-41.is refl, record { first = omega arith; count = omega arith; tail = omega arith })

pub returns-in-44 : goal.returns-in-44
unfolding operands_in form_of look_up
returns-in-44 c = (of_number _ _ _ 44 _ c.in-44.is refl, record { first = omega arith; count = omega arith; tail = omega arith })

pub returns-in-9-to-16 : goal.returns-in-9-to-16
unfolding operands_in
returns-in-9-to-16 c = (of-form _ _ _ binary _ (form-binary _ (beyond c.in-9-to-16.if-op-lt8-own.false c.in-9-to-16.in_default-own.rest.0.0.0.0.0.0.0.1) (below_is_lem _ _ c.in-9-to-16.if-op-lt17-own.true)) refl, record { first = omega arith; count = omega arith; tail = omega arith })

pub returns-in-36-to-37 : goal.returns-in-36-to-37
unfolding operands_in
returns-in-36-to-37 c = let beyond-here = beyond (beyond (beyond c.in-36-to-37.if-op-lt33-own.false c.in-36-to-37.in_default-own.rest.0.0.0.0.0.1) c.in-36-to-37.in_default-own.rest.0.0.0.0.1) c.in-36-to-37.in_default-own.rest.0.0.0.1 in
    let form-arm-here = form-arm _ beyond-here (below_is_lem _ _ c.in-36-to-37.if-op-lt38-own.true) in (
      of-name _ _ _ arm 2 1 _ form-arm-here refl c.field_at-tail-in-36-to-37.ensures.0,
      record { first = omega arith; count = omega arith; tail = c.field_at-tail-in-36-to-37.ensures.1 },
    )

pub returns-in-42-to-43 : goal.returns-in-42-to-43
returns-in-42-to-43 c = (two-42-43 _ _ _ (beyond (beyond c.in-42-to-43.if-op-lt40-own.false c.in-42-to-43.in_default-own.rest.0.0.1) c.in-42-to-43.in_default-own.rest.0.1) (below_is_lem _ _ c.in-42-to-43.if-op-lt44-own.true), record { first = omega arith; count = omega arith; tail = omega arith })

pub returns-in_default : goal.returns-in_default
returns-in_default c = (none-below-8 _ _ _ c.in_default.if-op-lt8-own.true, record { first = omega arith; count = omega arith; tail = omega arith })

pub returns-in_default-2 : goal.returns-in_default-2
returns-in_default-2 c = (none-17-to-32 _ _ _ c.in_default.if-op-lt17-own.false c.in_default.if-op-lt33-own.true c.in_default.in_default-own.rest.0.0.0.0.0.0.1, record { first = omega arith; count = omega arith; tail = omega arith })

pub returns-in_default-3 : goal.returns-in_default-3
returns-in_default-3 c = (none-38-39 _ _ _ c.in_default.if-op-lt38-own.false c.in_default.if-op-lt40-own.true, record { first = omega arith; count = omega arith; tail = omega arith })

pub returns-in_default-4 : goal.returns-in_default-4
returns-in_default-4 c = (none-from-45 _ _ _ c.in_default.if-op-lt44-own.false c.in_default.in_default-own.rest.1, record { first = omega arith; count = omega arith; tail = omega arith })
