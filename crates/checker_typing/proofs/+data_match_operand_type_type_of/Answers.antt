use native.Mathlib.Omega.{arith}
use Prim.Native.Nat.{◌-◌}
use mathlib.Core.Path.{refl, sym, ◌∙◌, ap}
use Rattle.sheet.specs.All.{all_below}
use Rattle.sheet.proofs.All.{all_more}
use Rattle.sheet_rules.proofs.Types.{lower_type_lem, not_lower_type}
use Rattle.sheet_types.proofs.Laws.{no, so}
use Rattle.checker_typing.proofs.Laws.{datum, data_fail, data_all, typed_absent, typed-literal, typed-read, typed_not, typed-binary, typed-clock, typed-element, typed-skip, typed-assign, typed-external, typed-internal, typed-arm, typed_act, typed_call, typed-choice, typed-loop, typed-sequence, typed-assigned, typed_zero, typed_gap, typed_past}
use mathlib.Core.Bool.{not}
use Rattle.checker_typing.proofs.+data_match_operand_type_type_of.Goals as goal

pub data_match-loop-j-init : goal.data_match-loop-j-init
unfolding all_below
data_match-loop-j-init t c = (omega arith, refl)

pub data_match-returns-then-not-is_of : goal.data_match-returns-then-not-is_of
data_match-returns-then-not-is_of t c = data_fail _ _ _ _ c.loop-j.j c.loop-j-test.true (no (datum _ _ _ _ _ _ _ _ _ _ _ c.field-m.ensures.0 c.operand_type-x.ensures c.type_at.ensures c.is_of.ensures) (ap not c.if-not-is_of.true))

pub data_match-loop-j-preserved : goal.data_match-loop-j-preserved
data_match-loop-j-preserved t c = (omega arith, all_more c.loop-j.j _ c.loop-j.invariant.1 (so (datum _ _ _ _ _ _ _ _ _ _ _ c.field-m.ensures.0 c.operand_type-x.ensures c.type_at.ensures c.is_of.ensures) (ap not c.if-not-is_of.false)))

pub data_match-returns : goal.data_match-returns
data_match-returns t c = data_all _ _ _ _ c.loop-j.j (omega arith) c.loop-j.invariant.1

pub operand_type-returns-then-m-n : goal.operand_type-returns-then-m-n
operand_type-returns-then-m-n t c = c.type_of.ensures ∙ sym (lower_type_lem _ _ _ c.if-m-n.true)

pub operand_type-returns-else-m-n : goal.operand_type-returns-else-m-n
operand_type-returns-else-m-n t c = sym (not_lower_type _ _ _ c.if-m-n.false)

pub type_of-returns-in_default : goal.type_of-returns-in_default
type_of-returns-in_default t c = typed_absent _ _ _ _ (sym c.record.ensures ∙ c.in_default.is)

pub type_of-operand_type-requires : goal.type_of-operand_type-requires
type_of-operand_type-requires t c = (omega (arith, c.decreases), c.requires.table)

pub type_of-operand_type-x-requires : goal.type_of-operand_type-x-requires
type_of-operand_type-x-requires t c = (omega (arith, c.decreases), c.requires.table)

pub type_of-operand_type-x-requires-in-33 : goal.type_of-operand_type-x-requires-in-33
type_of-operand_type-x-requires-in-33 t c = (omega (arith, c.decreases), c.requires.table)

pub type_of-operand_type-x-requires-in-34 : goal.type_of-operand_type-x-requires-in-34
type_of-operand_type-x-requires-in-34 t c = (omega (arith, c.decreases), c.requires.table)

pub type_of-operand_type-y-requires : goal.type_of-operand_type-y-requires
type_of-operand_type-y-requires t c = (omega (arith, c.decreases), c.requires.table)

pub type_of-data_match-d-requires : goal.type_of-data_match-d-requires
type_of-data_match-d-requires t c = (omega (arith, c.decreases), (c.requires.table, (c.name_range-g.ensures.1, c.name_range-g.ensures.2)))

pub type_of-data_match-d-requires-in-35 : goal.type_of-data_match-d-requires-in-35
type_of-data_match-d-requires-in-35 t c = (omega (arith, c.decreases), (c.requires.table, (c.name_range-g-in-35.ensures.1, c.name_range-g-in-35.ensures.2)))

pub type_of-internal_type-requires : goal.type_of-internal_type-requires
type_of-internal_type-requires t c = c.requires

pub type_of-data_match-d-requires-in-40 : goal.type_of-data_match-d-requires-in-40
type_of-data_match-d-requires-in-40 t c = (omega (arith, c.decreases), (c.requires.table, (c.called_range-g.ensures.1, c.called_range-g.ensures.2)))

pub type_of-operand_type-x-requires-in-41 : goal.type_of-operand_type-x-requires-in-41
type_of-operand_type-x-requires-in-41 t c = (omega (arith, c.decreases), c.requires.table)

pub type_of-operand_type-y-requires-in-41 : goal.type_of-operand_type-y-requires-in-41
type_of-operand_type-y-requires-in-41 t c = (omega (arith, c.decreases), c.requires.table)

pub type_of-operand_type-z-requires : goal.type_of-operand_type-z-requires
type_of-operand_type-z-requires t c = (omega (arith, c.decreases), c.requires.table)

pub type_of-operand_type-x-requires-in-42 : goal.type_of-operand_type-x-requires-in-42
type_of-operand_type-x-requires-in-42 t c = (omega (arith, c.decreases), c.requires.table)

pub type_of-operand_type-y-requires-in-42 : goal.type_of-operand_type-y-requires-in-42
type_of-operand_type-y-requires-in-42 t c = (omega (arith, c.decreases), c.requires.table)

pub type_of-operand_type-x-requires-in-43 : goal.type_of-operand_type-x-requires-in-43
type_of-operand_type-x-requires-in-43 t c = (omega (arith, c.decreases), c.requires.table)

pub type_of-operand_type-y-requires-in-43 : goal.type_of-operand_type-y-requires-in-43
type_of-operand_type-y-requires-in-43 t c = (omega (arith, c.decreases), c.requires.table)

pub type_of-operand_type-x-requires-in-44 : goal.type_of-operand_type-x-requires-in-44
type_of-operand_type-x-requires-in-44 t c = (omega (arith, c.decreases), c.requires.table)

pub type_of-operand_type-y-requires-in-44 : goal.type_of-operand_type-y-requires-in-44
type_of-operand_type-y-requires-in-44 t c = (omega (arith, c.decreases), c.requires.table)

pub type_of-operand_type-x-requires-in-9-to-16 : goal.type_of-operand_type-x-requires-in-9-to-16
type_of-operand_type-x-requires-in-9-to-16 t c = (omega (arith, c.decreases), c.requires.table)

pub type_of-operand_type-y-requires-in-9-to-16 : goal.type_of-operand_type-y-requires-in-9-to-16
type_of-operand_type-y-requires-in-9-to-16 t c = (omega (arith, c.decreases), c.requires.table)

pub type_of-operand_type-x-requires-in-36-to-37 : goal.type_of-operand_type-x-requires-in-36-to-37
type_of-operand_type-x-requires-in-36-to-37 t c = (omega (arith, c.decreases), c.requires.table)

pub type_of-data_match-d-requires-in-36-to-37 : goal.type_of-data_match-d-requires-in-36-to-37
type_of-data_match-d-requires-in-36-to-37 t c = (omega (arith, c.decreases), (c.requires.table, (c.name_range-g-in-36-to-37.ensures.1, c.name_range-g-in-36-to-37.ensures.2)))

pub type_of-arm_type-requires : goal.type_of-arm_type-requires
type_of-arm_type-requires t c = c.requires

pub type_of-returns-in-7 : goal.type_of-returns-in-7
type_of-returns-in-7 t c = typed-read _ _ _ _ _ (sym c.record.ensures ∙ c.in-Some.is) _ c.in-7.is c.read_type.ensures

pub type_of-returns-in-8 : goal.type_of-returns-in-8
type_of-returns-in-8 t c = typed_not _ _ _ _ _ (sym c.record.ensures ∙ c.in-Some.is) _ _ c.in-8.is c.operand_type.ensures c.not_type.ensures

pub type_of-returns-in-19 : goal.type_of-returns-in-19
type_of-returns-in-19 t c = typed-element _ _ _ _ _ (sym c.record.ensures ∙ c.in-Some.is) _ _ c.in-19.is c.operand_type-x.ensures c.read_element_type.ensures

pub type_of-returns-in-32 : goal.type_of-returns-in-32
type_of-returns-in-32 t c = typed-skip _ _ _ _ _ (sym c.record.ensures ∙ c.in-Some.is) c.in-32.is

pub type_of-returns-in-33 : goal.type_of-returns-in-33
type_of-returns-in-33 t c = typed-assign _ _ _ _ _ (sym c.record.ensures ∙ c.in-Some.is) _ _ c.in-33.is c.operand_type-x-in-33.ensures c.assign_type.ensures

pub type_of-returns-in-34 : goal.type_of-returns-in-34
type_of-returns-in-34 t c = let r-is = sym c.record.ensures ∙ c.in-Some.is in
    typed-external _ _ _ _ _ r-is _ _ _ _ _ c.in-34.is c.operand_type-x-in-34.ensures c.operand_type-y.ensures c.name_range-g.ensures.0
    c.data_match-d.ensures c.external_type.ensures

pub type_of-returns-in-35 : goal.type_of-returns-in-35
type_of-returns-in-35 t c = typed-internal _ _ _ _ _ (sym c.record.ensures ∙ c.in-Some.is) _ _ _ c.in-35.is c.name_range-g-in-35.ensures.0 c.data_match-d-in-35.ensures c.internal_type.ensures

pub type_of-returns-in-40 : goal.type_of-returns-in-40
type_of-returns-in-40 t c = typed_call _ _ _ _ _ (sym c.record.ensures ∙ c.in-Some.is) _ _ _ c.in-40.is c.called_range-g.ensures.0 c.data_match-d-in-40.ensures c.call_type.ensures

pub type_of-returns-in-41 : goal.type_of-returns-in-41
type_of-returns-in-41 t c = typed-choice _ _ _ _ _ (sym c.record.ensures ∙ c.in-Some.is) _ _ _ _ c.in-41.is c.operand_type-x-in-41.ensures c.operand_type-y-in-41.ensures c.operand_type-z.ensures c.choice_type.ensures

pub type_of-returns-in-42 : goal.type_of-returns-in-42
type_of-returns-in-42 t c = typed-loop _ _ _ _ _ (sym c.record.ensures ∙ c.in-Some.is) _ _ _ c.in-42.is c.operand_type-x-in-42.ensures c.operand_type-y-in-42.ensures c.loop_type.ensures

pub type_of-returns-in-43 : goal.type_of-returns-in-43
type_of-returns-in-43 t c = typed-sequence _ _ _ _ _ (sym c.record.ensures ∙ c.in-Some.is) _ _ _ c.in-43.is c.operand_type-x-in-43.ensures c.operand_type-y-in-43.ensures c.sequence_type.ensures

pub type_of-returns-in-44 : goal.type_of-returns-in-44
type_of-returns-in-44 t c = typed-assigned _ _ _ _ _ (sym c.record.ensures ∙ c.in-Some.is) _ _ _ c.in-44.is c.operand_type-x-in-44.ensures c.operand_type-y-in-44.ensures c.assign_element_type.ensures

pub type_of-returns-in-1-to-6 : goal.type_of-returns-in-1-to-6
type_of-returns-in-1-to-6 t c = typed-literal _ _ _ _ _ (sym c.record.ensures ∙ c.in-Some.is) _ c.in-1-to-6.if-op-lt1-own.false c.in-1-to-6.if-op-lt7-own.true c.literal_type.ensures

pub type_of-returns-in-9-to-16 : goal.type_of-returns-in-9-to-16
type_of-returns-in-9-to-16 t c = let r-is = sym c.record.ensures ∙ c.in-Some.is in
    typed-binary _ _ _ _ _ r-is _ _ _ c.in-9-to-16.if-op-lt7-own.false c.in-9-to-16.in_default-own.rest.0.0.0.0.0.0.0.0.0.0.0.1 c.in-9-to-16.in_default-own.rest.0.0.0.0.0.0.0.0.0.0.1
    c.in-9-to-16.if-op-lt17-own.true c.operand_type-x-in-9-to-16.ensures c.operand_type-y-in-9-to-16.ensures c.binary_type.ensures

pub type_of-returns-in-17-to-18 : goal.type_of-returns-in-17-to-18
type_of-returns-in-17-to-18 t c = typed-clock _ _ _ _ _ (sym c.record.ensures ∙ c.in-Some.is) _ c.in-17-to-18.if-op-lt17-own.false c.in-17-to-18.if-op-lt19-own.true c.clock_type.ensures

pub type_of-returns-in-36-to-37 : goal.type_of-returns-in-36-to-37
type_of-returns-in-36-to-37 t c = let r-is = sym c.record.ensures ∙ c.in-Some.is in
    typed-arm _ _ _ _ _ r-is _ _ _ _ c.in-36-to-37.if-op-lt32-own.false c.in-36-to-37.in_default-own.rest.0.0.0.0.0.0.0.0.1 c.in-36-to-37.in_default-own.rest.0.0.0.0.0.0.0.1
    c.in-36-to-37.in_default-own.rest.0.0.0.0.0.0.1 c.in-36-to-37.in_default-own.rest.0.0.0.0.0.1 c.in-36-to-37.if-op-lt38-own.true c.operand_type-x-in-36-to-37.ensures c.name_range-g-in-36-to-37.ensures.0
    c.data_match-d-in-36-to-37.ensures c.arm_type.ensures

pub type_of-returns-in-38-to-39 : goal.type_of-returns-in-38-to-39
type_of-returns-in-38-to-39 t c = typed_act _ _ _ _ _ (sym c.record.ensures ∙ c.in-Some.is) _ c.in-38-to-39.if-op-lt38-own.false c.in-38-to-39.if-op-lt40-own.true c.clock_act_type.ensures

pub type_of-returns-in_default-op : goal.type_of-returns-in_default-op
type_of-returns-in_default-op t c = typed_zero _ _ _ _ _ (sym c.record.ensures ∙ c.in-Some.is) c.in_default-op.if-op-lt1-own.true

pub type_of-returns-in_default-op-2 : goal.type_of-returns-in_default-op-2
type_of-returns-in_default-op-2 t c = typed_gap _ _ _ _ _ (sym c.record.ensures ∙ c.in-Some.is) c.in_default-op.if-op-lt19-own.false c.in_default-op.in_default-own.rest.0.0.0.0.0.0.0.0.0.1 c.in_default-op.if-op-lt32-own.true

pub type_of-returns-in_default-op-3 : goal.type_of-returns-in_default-op-3
type_of-returns-in_default-op-3 t c = let r-is = sym c.record.ensures ∙ c.in-Some.is in
    typed_past _ _ _ _ _ r-is c.in_default-op.if-op-lt40-own.false c.in_default-op.in_default-own.rest.0.0.0.0.1 c.in_default-op.in_default-own.rest.0.0.0.1 c.in_default-op.in_default-own.rest.0.0.1 c.in_default-op.in_default-own.rest.0.1
    c.in_default-op.in_default-own.rest.1
