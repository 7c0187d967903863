use native.Mathlib.Omega.{arith}
use mathlib.Core.Path.{sym, ap, ◌∙◌}
use Prim.Native.Nat.{◌-◌}
use mathlib.Core.Bool.{not}
use Rattle.sheet_rules.proofs.Fields.{holds-present, holds_absent}
use Rattle.checker_reactions.proofs.Entries.{no_twins, a_twin, twin_less, walk_start, walk_more}
use Rattle.checker_twins.proofs.no_twin.Goals as goal

pub returns-then-not-is_reaction : goal.returns-then-not-is_reaction
returns-then-not-is_reaction c = twin_less _ _ _ _ _ _ c.requires.chains (sym c.is_reaction.ensures ∙ c.if-not-is_reaction.true)

pub bounds-tables-b : goal.bounds-tables-b
bounds-tables-b c = omega (arith, c.requires.f2_bound (sym c.is_reaction.ensures ∙ c.if-not-is_reaction.false), c.requires.chains.entries.size)

pub loop-e-init : goal.loop-e-init
loop-e-init c = walk_start _ _ _ _ _ _ c.requires.chains (c.requires.f2_bound (sym c.is_reaction.ensures ∙ c.if-not-is_reaction.false)) _ c.earlier-e.ensures.0 c.earlier-e.ensures.1

pub returns-in_default : goal.returns-in_default
returns-in_default c = a_twin _ _ _ _ _ (omega arith) (omega (arith, c.loop-e.invariant.inside)) (holds_absent _ _ (sym c.record.ensures ∙ c.in_default.is))

pub returns-then-same_reaction : goal.returns-then-same_reaction
returns-then-same_reaction c = a_twin _ _ _ _ _ (omega arith) (omega (arith, c.loop-e.invariant.inside)) (holds-present _ _ _ (sym c.record.ensures ∙ c.in-Some.is) ∙ ap not (sym c.same_reaction.ensures ∙ c.if-same_reaction.true))

pub bounds-tables-i : goal.bounds-tables-i
bounds-tables-i c = omega (arith, c.loop-e.invariant.inside, c.requires.j_bound_2, c.requires.chains.size)

pub loop-e-smaller : goal.loop-e-smaller
loop-e-smaller c = omega (arith, c.earlier-e-in-loop-e.ensures.1)

pub loop-e-preserved : goal.loop-e-preserved
loop-e-preserved c = let a-is = sym c.record.ensures ∙ c.in-Some.is in
    let is-reaction-is = sym c.is_reaction.ensures ∙ c.if-not-is_reaction.false in
    let same-reaction-is = sym c.same_reaction.ensures ∙ c.if-same_reaction.false in
    walk_more _ _ _ _ _ _ c.requires.chains (c.requires.f2_bound is-reaction-is) _ _ _ c.loop-e.invariant c.loop-e-test.true a-is same-reaction-is
    c.earlier-e-in-loop-e.ensures.0 c.earlier-e-in-loop-e.ensures.1

pub returns : goal.returns
returns c = no_twins _ _ _ _ (λ m a l. c.loop-e.invariant.seen m a (omega arith) l)
