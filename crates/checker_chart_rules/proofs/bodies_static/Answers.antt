use native.Mathlib.Omega.{arith}
use mathlib.Core.Path.{refl, sym, ◌∙◌}
use Prim.Native.Nat.{◌-◌}
use Rattle.sheet.specs.All.{◌and◌, all_below}
use Rattle.sheet.proofs.All.{and-true, first_fails_lem, rest_fails, all_more, loop_fails, loop_ends}
use Rattle.sheet_rules.proofs.Fields.{holds-present, holds_absent}
use Rattle.sheet_rules.specs.Static.{bodies_static}
use Rattle.checker_reactions.proofs.Entries.{body-small, static-small, chained_next, chains_start, ready}
use Rattle.checker_chart_rules.proofs.bodies_static.Goals as goal

pub fill-requires : goal.fill-requires
fill-requires c = record { entries = c.requires.table_entries }

pub loop-j-init : goal.loop-j-init
unfolding all_below
loop-j-init c = (omega arith, omega arith, refl, chains_start _ _ _ c.requires, c.fill.ensures.0, c.fill.ensures.1)

pub returns-in_default : goal.returns-in_default
unfolding bodies_static
returns-in_default c = (loop_fails _ _ _ _ refl c.loop-j-test.true (holds_absent _ _ (sym c.record.ensures ∙ c.in_default.is)), ready _ _ _ _ c.loop-j.invariant.4 c.loop-j.invariant.3)

pub body_static-requires : goal.body_static-requires
body_static-requires c = record { table = c.loop-j.invariant.5 }

pub returns-then-not-body_static : goal.returns-then-not-body_static
unfolding bodies_static
returns-then-not-body_static c = let b-is = sym c.record.ensures ∙ c.in-Some.is in
    let body-static-is = sym (sym c.body_static.ensures ∙ c.if-not-body_static.true) in (
      loop_fails _ _ _ _ refl c.loop-j-test.true (holds-present _ _ _ b-is ∙ sym (rest_fails _ _ body-static-is)),
      ready _ _ _ _ c.loop-j.invariant.4 c.loop-j.invariant.3,
    )

pub no_twin-requires : goal.no_twin-requires
no_twin-requires c = let body-static-is = sym c.body_static.ensures ∙ c.if-not-body_static.false in
    record { j_bound = omega arith; j_bound_2 = omega (arith, body-small _ _ _ (sym c.record.ensures ∙ c.in-Some.is)); chains = c.loop-j.invariant.3; f2_bound = static-small _ _ _ body-static-is }

pub returns-then-not-no_twin : goal.returns-then-not-no_twin
unfolding bodies_static
returns-then-not-no_twin c = let b-is = sym c.record.ensures ∙ c.in-Some.is in
    let no-twin-is = sym c.no_twin.ensures ∙ c.if-not-no_twin.true in (
      loop_fails _ _ _ _ refl c.loop-j-test.true (holds-present _ _ _ b-is ∙ sym (first_fails_lem _ _ no-twin-is)),
      ready _ _ _ _ c.loop-j.invariant.4 c.loop-j.invariant.3,
    )

pub link-requires : goal.link-requires
link-requires c = let b-is = sym c.record.ensures ∙ c.in-Some.is in
    let body-static-is = sym c.body_static.ensures ∙ c.if-not-body_static.false in
    record { last_len = (c.loop-j.invariant.3.entries.size, c.loop-j.invariant.3.size, omega (arith, body-small _ _ _ b-is)); f2_bound = static-small _ _ _ body-static-is }

pub loop-j-preserved : goal.loop-j-preserved
loop-j-preserved c = let no-twin-is = sym c.no_twin.ensures ∙ c.if-not-no_twin.false in
    let body-static-is = sym c.body_static.ensures ∙ c.if-not-body_static.false in
    let b-is = sym c.record.ensures ∙ c.in-Some.is in (
      omega arith,
      c.loop-j.invariant.1,
      all_more c.loop-j.j _ c.loop-j.invariant.2 (holds-present _ _ _ b-is ∙ and-true _ _ no-twin-is body-static-is),
      chained_next _ _ _ _ _ _ _ _ b-is c.loop-j.invariant.3 c.link.ensures.linked,
      rw c.link.ensures.internal c.loop-j.invariant.4,
      rw c.link.ensures.internal c.loop-j.invariant.5,
    )

pub returns : goal.returns
unfolding bodies_static
returns c = (loop_ends _ _ _ _ refl c.loop-j.invariant.0 c.loop-j-test.false c.loop-j.invariant.2, ready _ _ _ _ c.loop-j.invariant.4 c.loop-j.invariant.3)
