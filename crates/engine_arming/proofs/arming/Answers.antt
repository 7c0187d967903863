use mathlib.Core.Path.{◌≡◌, sym, ap, ◌∙◌}
use native.Mathlib.Omega.{arith}
use mir.Syntax.{w32}
use mir.Val.{of_z, to_z}
use mir.ValLaws.{to_z_pos}
use borrow.Author.Rules.{rules}
use Rattle.machine.specs.declared.Ran.TheVariants.{Done}
use Rattle.machine.specs.Run.{world}
use Rattle.sheet_rules.specs.Types.{clock_of}
use Rattle.engine_ready.proofs.Statements.{period_operand, arm-name, arm_data, arm_word}
use Rattle.engine_data.proofs.Data.{on_word, on_stop, four_data, data_given, on_data, data_stop, no_record}
use Rattle.engine_arming.proofs.Acts.{armed_not, armed_so, value_back_lem, arm_lies}
use Rattle.engine_arming.proofs.arming.Goals as goal

pub returns-in_default : goal.returns-in_default
returns-in_default c = no_record (sym c.in_default.is ∙ c.record.ensures) (arm-name _ _ _ _ c.requires.ready _ _ c.requires.there c.requires.statement c.requires.form)

pub eval-requires : goal.eval-requires
eval-requires c = (c.requires.ready, period_operand _ _ _ _ c.requires.ready _ _ c.requires.there c.requires.statement c.requires.form)

pub returns-in_err-period : goal.returns-in_err-period
returns-in_err-period c = λ depth. on_stop _ _ _ _ _ _ c.from_residual.ensures.1 c.in_err-period.ensures
    ∙ sym (arm_word _ _ _ _ c.requires.ready _ _ c.requires.there c.requires.statement c.requires.form _ (sym c.record.ensures ∙ c.in-Some.is) depth _)

pub gather-requires : goal.gather-requires
gather-requires c = let a-is = sym c.record.ensures ∙ c.in-Some.is in (
  c.requires.ready,
  rw c.data_range-g.ensures (arm_data _ _ _ _ c.requires.ready _ _ c.requires.there c.requires.statement c.requires.form _ a-is),
  rw c.data_range-g.ensures (four_data _ _ c.requires.ready.running _ _ a-is),
)

pub returns-in_err-data : goal.returns-in_err-data
returns-in_err-data c = λ depth. data_stop _ _ _ _ _ _ c.from_residual-in_err-data.ensures.1 (rw c.data_range-g.ensures at c.in_err-data.ensures)
    ∙ on_word _ _ _ _ _ _ c.in_ok-period.ensures
    ∙ sym (arm_word _ _ _ _ c.requires.ready _ _ c.requires.there c.requires.statement c.requires.form _ (sym c.record.ensures ∙ c.in-Some.is) depth _)

pub returns-then-period-lt1 : goal.returns-then-period-lt1
returns-then-period-lt1 c = let period : to_z w32 (of_z w32 c.in_ok-period.period) ≡ c.in_ok-period.period = search rules in
    let d = data_given _ _ _ (rw c.data_range-g.ensures at c.in_ok-data.ensures) in
    λ depth. armed_not _ (clock_of c.args.r.f0) _ c.args.r.f3 d.0 _ _ _ (rw period at c.if-period-lt1.true)
    ∙ on_data _ _ _ _ _ _ d.2
    ∙ on_word _ _ _ _ _ _ c.in_ok-period.ensures
    ∙ sym (arm_word _ _ _ _ c.requires.ready _ _ c.requires.there c.requires.statement c.requires.form _ (sym c.record.ensures ∙ c.in-Some.is) depth _)

pub first_word-requires : goal.first_word-requires
first_word-requires c = let l = arm_lies _ _ _ _ _ _ c.requires in (l.whole, l.number, let h = l.inside in let k = l.short in omega arith)

pub put_clock-requires : goal.put_clock-requires
put_clock-requires c = let l = arm_lies _ _ _ _ _ _ c.requires in let h = l.inside in let e = c.first_word.ensures in omega arith

pub returns : goal.returns
returns c = let args = c.args in
    let period : to_z w32 (of_z w32 c.in_ok-period.period) ≡ c.in_ok-period.period = search rules in
    let d = data_given _ _ _ (rw c.data_range-g.ensures at c.in_ok-data.ensures) in
    let value = value_back_lem (clock_of args.r.f0) _ _ period (rw period at c.first_value.ensures) in
    λ depth. ap (λ st. world (Done c.in_ok-data.left) st args.lo.now) (rw (value, period, to_z_pos w32 args.r.f3 (omega arith), d.1) at (rw c.first_word.ensures at c.put_clock.ensures))
    ∙ armed_so _ (clock_of args.r.f0) _ args.r.f3 d.0 _ _ _ (rw period at c.if-period-lt1.false)
    ∙ on_data _ _ _ _ _ _ d.2
    ∙ on_word _ _ _ _ _ _ c.in_ok-period.ensures
    ∙ sym (arm_word _ _ _ _ c.requires.ready _ _ c.requires.there c.requires.statement c.requires.form _ (sym c.record.ensures ∙ c.in-Some.is) depth _)
