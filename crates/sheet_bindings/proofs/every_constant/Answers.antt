use native.Mathlib.Omega.{arith}
use mathlib.Core.Path.{refl, sym, ◌∙◌}
use Rattle.std.proofs.Common.{rules, of_calls}
use Rattle.sheet.specs.All.{all_below}
use Rattle.sheet.proofs.All.{all_more, loop_fails, loop_ends}
use Rattle.sheet_rules.proofs.Bindings.{constant_absent, constant_present}
use Rattle.sheet_bindings.proofs.every_constant.Goals as goal

pub loop-j-init : goal.loop-j-init
unfolding all_below
loop-j-init g c = (search rules, λ p t. refl)

pub constant_record-requires : goal.constant_record-requires
constant_record-requires g c = c.requires.near

pub returns-in_default : goal.returns-in_default
returns-in_default g c = λ p t. loop_fails _ _ _ _ refl c.loop-j-test.true (constant_absent _ _ _ _ c.constant_record.ensures _ (sym c.record.ensures ∙ c.in_default.is))

pub constant_field-requires : goal.constant_field-requires
constant_field-requires g c = omega (arith, c.loop-j-test.true, c.loop-j.invariant.0)

pub fits-requires : goal.fits-requires
fits-requires g c = search (rules, of_calls, c.requires.asked c.loop-j.j c.field-n.result (omega (arith, c.loop-j-test.true, c.loop-j.invariant.0)) c.field-n.ensures.1)

pub returns-then-not-fits : goal.returns-then-not-fits
returns-then-not-fits g c = λ p t.
    let b-is = sym c.record.ensures ∙ c.in-Some.is in
    let tested = t c.loop-j.j c.field-n.result _ (omega (arith, c.loop-j-test.true, c.loop-j.invariant.0)) c.field-n.ensures.1 (search of_calls) in
    loop_fails _ _ _ _ refl c.loop-j-test.true (constant_present _ _ _ _ c.constant_record.ensures (p c.loop-j.j) _ _ _ _ b-is c.constant_field.ensures c.field-n.ensures.0 tested ∙ c.if-not-fits.true)

pub loop-j-preserved : goal.loop-j-preserved
loop-j-preserved g c = (
  c.loop-j.invariant.0,
  λ p t.
      let b-is = sym c.record.ensures ∙ c.in-Some.is in
      let tested = t c.loop-j.j c.field-n.result _ (omega (arith, c.loop-j-test.true, c.loop-j.invariant.0)) c.field-n.ensures.1 (search of_calls) in
      all_more c.loop-j.j _ (c.loop-j.invariant.1 p t) (constant_present _ _ _ _ c.constant_record.ensures (p c.loop-j.j) _ _ _ _ b-is c.constant_field.ensures c.field-n.ensures.0 tested ∙ c.if-not-fits.false),
)

pub returns : goal.returns
returns g c = λ p t. loop_ends _ _ _ _ refl (omega arith) c.loop-j-test.false (c.loop-j.invariant.1 p t)
