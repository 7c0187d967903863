use native.Mathlib.Omega.{arith}
use mathlib.Core.Path.{◌≡◌, refl, sym, ap, ◌∙◌}
use mathlib.Core.Bool.{Bool}
use mathlib.Core.List.{List}
use Prim.Native.Nat.{ℕ, ◌≤◌, ◌<◌}
use native.Mathlib.Decide.{dec_lt}
use Rattle.sheet.proofs.All.{from_next, below_is_lem}
use Rattle.sheet.specs.declared.Record.{Record}
use Rattle.sheet_rules.specs.Fields.{zero_from}
use Rattle.sheet.specs.Table.{look_up}
use Rattle.sheet_rules.specs.Forms.{Form, literal, binary, clock, arm, clock_act, unknown, form_of}
use Rattle.sheet_rules.proofs.Forms.{form-literal, form-binary, form-clock, form-arm, form-clock_act, form-unknown}
use Rattle.sheet_rules.specs.Shape.{fields_shape}
use Rattle.checker_fields.proofs.fields_fit.Goals as goal

module _ (op : ℕ) where
  unknown-low : op < 1 → form_of op ≡ unknown
  unknown-low h = form-unknown op (λ a b. omega arith) (λ a b. omega arith)

  unknown-between : 20 ≤ op → op < 32 → form_of op ≡ unknown
  unknown-between h k = form-unknown op (λ a b. omega arith) (λ a b. omega arith)

  unknown-high : 45 ≤ op → form_of op ≡ unknown
  unknown-high h = form-unknown op (λ a b. omega arith) (λ a b. omega arith)

module _ (s : List ℕ) (c b r : Record) (x : Bool) where
  of-form : (f : Form) → form_of r.f0 ≡ f → x ≡ fields_shape s c b r f → x ≡ fields_shape s c b r (form_of r.f0)
  of-form f e p = p ∙ sym (ap (fields_shape s c b r) e)

  of-operator : (op : ℕ) → r.f0 ≡ op → x ≡ fields_shape s c b r (form_of op) → x ≡ fields_shape s c b r (form_of r.f0)
  of-operator op e p = of-form _ (ap form_of e) p

  loop-or-sequence : 42 ≤ r.f0 → r.f0 ≤ 43 → x ≡ zero_from 3 r → x ≡ fields_shape s c b r (form_of r.f0)
  unfolding fields_shape form_of look_up
  loop-or-sequence h k p = elim (dec_lt r.f0 43) [
    | yes l ↦ of-operator 42 (omega arith) p
    | no g ↦ of-operator 43 (omega arith) p
  ]

pub returns-in-7 : goal.returns-in-7
unfolding fields_shape form_of look_up
returns-in-7 c = of-operator _ _ _ _ _ 7 c.in-7.is c.variable_fits.ensures

pub returns-in-8 : goal.returns-in-8
unfolding fields_shape form_of look_up
returns-in-8 c = of-operator _ _ _ _ _ 8 c.in-8.is c.zero_from.ensures

pub returns-in-19 : goal.returns-in-19
unfolding fields_shape form_of look_up
returns-in-19 c = of-operator _ _ _ _ _ 19 c.in-19.is c.chart_variable_fits.ensures

pub returns-in-32 : goal.returns-in-32
unfolding fields_shape form_of look_up
returns-in-32 c = of-operator _ _ _ _ _ 32 c.in-32.is c.zero_from-in-32.ensures

pub returns-in-33 : goal.returns-in-33
unfolding fields_shape form_of look_up
returns-in-33 c = of-operator _ _ _ _ _ 33 c.in-33.is c.variable_fits-in-33.ensures

pub returns-in-34 : goal.returns-in-34
unfolding fields_shape form_of look_up
returns-in-34 c = of-operator _ _ _ _ _ 34 c.in-34.is c.send_fits.ensures

pub returns-in-35 : goal.returns-in-35
unfolding fields_shape form_of look_up
returns-in-35 c = of-operator _ _ _ _ _ 35 c.in-35.is c.internal_fits.ensures

pub returns-in-40 : goal.returns-in-40
unfolding fields_shape form_of look_up
returns-in-40 c = of-operator _ _ _ _ _ 40 c.in-40.is c.call_fits.ensures

pub returns-in-41 : goal.returns-in-41
unfolding fields_shape form_of look_up
returns-in-41 c = of-operator _ _ _ _ _ 41 c.in-41.is c.zero_from-in-41.ensures

pub returns-in-44 : goal.returns-in-44
unfolding fields_shape form_of look_up
returns-in-44 c = of-operator _ _ _ _ _ 44 c.in-44.is c.chart_variable_fits-in-44.ensures

pub returns-in-1-to-6 : goal.returns-in-1-to-6
unfolding fields_shape
returns-in-1-to-6 c = of-form _ _ _ _ _ literal (form-literal _ c.in-1-to-6.if-op-lt1-own.false (below_is_lem _ _ c.in-1-to-6.if-op-lt7-own.true)) c.literal_fits.ensures

pub returns-in-9-to-16 : goal.returns-in-9-to-16
unfolding fields_shape
returns-in-9-to-16 c = of-form _ _ _ _ _ binary (form-binary _ (from_next 8 _ (from_next 7 _ c.in-9-to-16.if-op-lt7-own.false c.in-9-to-16.in_default-own.rest.0.0.0.0.0.0.0.0.0.1) c.in-9-to-16.in_default-own.rest.0.0.0.0.0.0.0.0.1) (below_is_lem _ _ c.in-9-to-16.if-op-lt17-own.true)) c.zero_from-in-9-to-16.ensures

pub returns-in-17-to-18 : goal.returns-in-17-to-18
unfolding fields_shape
returns-in-17-to-18 c = of-form _ _ _ _ _ clock (form-clock _ c.in-17-to-18.if-op-lt17-own.false (below_is_lem _ _ c.in-17-to-18.if-op-lt19-own.true)) c.chart_variable_fits-in-17-to-18.ensures

pub returns-in-36-to-37 : goal.returns-in-36-to-37
unfolding fields_shape
returns-in-36-to-37 c = let from-next-here = from_next 35 _
    (from_next 34 _ (from_next 33 _ (from_next 32 _ c.in-36-to-37.if-op-lt32-own.false c.in-36-to-37.in_default-own.rest.0.0.0.0.0.0.1) c.in-36-to-37.in_default-own.rest.0.0.0.0.0.1)
    c.in-36-to-37.in_default-own.rest.0.0.0.0.1)
    c.in-36-to-37.in_default-own.rest.0.0.0.1 in
    of-form _ _ _ _ _ arm (form-arm _ from-next-here (below_is_lem _ _ c.in-36-to-37.if-op-lt38-own.true)) c.arm_fits.ensures

pub returns-in-38-to-39 : goal.returns-in-38-to-39
unfolding fields_shape
returns-in-38-to-39 c = of-form _ _ _ _ _ clock_act (form-clock_act _ c.in-38-to-39.if-op-lt38-own.false (below_is_lem _ _ c.in-38-to-39.if-op-lt40-own.true)) c.chart_variable_fits-in-38-to-39.ensures

pub returns-in-42-to-43 : goal.returns-in-42-to-43
returns-in-42-to-43 c = loop-or-sequence _ _ _ _ _ (from_next 41 _ (from_next 40 _ c.in-42-to-43.if-op-lt40-own.false c.in-42-to-43.in_default-own.rest.0.0.1) c.in-42-to-43.in_default-own.rest.0.1) (below_is_lem _ _ c.in-42-to-43.if-op-lt44-own.true) c.zero_from-in-42-to-43.ensures

pub returns-in_default : goal.returns-in_default
unfolding fields_shape
returns-in_default c = of-form _ _ _ _ _ unknown (unknown-low _ c.in_default.if-op-lt1-own.true) refl

pub returns-in_default-2 : goal.returns-in_default-2
unfolding fields_shape
returns-in_default-2 c = of-form _ _ _ _ _ unknown (unknown-between _ (from_next 19 _ c.in_default.if-op-lt19-own.false c.in_default.in_default-own.rest.0.0.0.0.0.0.0.1) c.in_default.if-op-lt32-own.true) refl

pub returns-in_default-3 : goal.returns-in_default-3
unfolding fields_shape
returns-in_default-3 c = of-form _ _ _ _ _ unknown (unknown-high _ (from_next 44 _ c.in_default.if-op-lt44-own.false c.in_default.in_default-own.rest.1)) refl
