use mathlib.Core.Path.{sym, ◌∙◌}
use native.Mathlib.Omega.{arith}
use Rattle.std.proofs.Common.{rules, of_calls}
use Rattle.sheet.proofs.Sheet.{count_limit}
use Rattle.sheet_rules.proofs.Bindings.{walked_begins, walked_on, walked_fails, walked_ends, behind_near}
use Rattle.sheet_bindings.proofs.every_element.Goals as goal

pub loop-k-init : goal.loop-k-init
loop-k-init g c = (c.count-count.ensures, λ p t. walked_begins _ _)

pub met-requires : goal.met-requires
met-requires g c = search (rules, of_calls, c.requires c.loop-k.k (omega (arith, c.loop-k-test.true, c.loop-k.invariant.0, count_limit c.args.sheet.now.sheet.now 7)))

pub returns-then-not-met : goal.returns-then-not-met
returns-then-not-met g c = λ p t. walked_fails _ _ _ (c.loop-k.invariant.1 p t) (omega (arith, c.loop-k-test.true, c.loop-k.invariant.0)) (sym (t _ _ (omega (arith, c.loop-k-test.true, c.loop-k.invariant.0, count_limit c.args.sheet.now.sheet.now 7)) (search of_calls)) ∙ c.if-not-met.true)

pub record_behind-k-requires : goal.record_behind-k-requires
record_behind-k-requires g c = omega (arith, c.loop-k-test.true, c.loop-k.invariant.0, count_limit c.args.sheet.now.sheet.now 7)

pub loop-k-smaller : goal.loop-k-smaller
loop-k-smaller g c = omega (arith, c.loop-k-test.true, c.record_behind-k.ensures.0, (behind_near c.args.sheet.now.sheet.now c.loop-k.k).0)

pub loop-k-preserved : goal.loop-k-preserved
loop-k-preserved g c = (c.loop-k.invariant.0, λ p t. walked_on _ _ _ (c.loop-k.invariant.1 p t) _ c.record_behind-k.ensures.0 (omega (arith, c.loop-k-test.true, c.loop-k.invariant.0)) (sym (t _ _ (omega (arith, c.loop-k-test.true, c.loop-k.invariant.0, count_limit c.args.sheet.now.sheet.now 7)) (search of_calls)) ∙ c.if-not-met.false))

pub returns : goal.returns
returns g c = λ p t. walked_ends _ _ _ (c.loop-k.invariant.1 p t) (omega (arith, c.loop-k-test.false, c.loop-k.invariant.0))
