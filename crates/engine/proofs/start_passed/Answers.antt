use mathlib.Core.Path.{sym, ap, ◌∙◌}
use native.Mathlib.Omega.{arith}
use borrow.Author.Tests.{eqb-true, eqb-false}
use Rattle.machine.specs.declared.Answer.{Answer}
use Rattle.machine.specs.Play.{ended}
use Rattle.machine_passed.proofs.Records.{cells_limit}
use Rattle.machine_events.proofs.Laws.{start_length}
use Rattle.engine_lengths.proofs.Laws.{by_cells}
use Rattle.engine.proofs.start_passed.Goals as goal

pub is_state-requires : goal.is_state-requires
is_state-requires c = let e = c.fill.ensures.0 in omega (arith, cells_limit _ c.requires)

pub returns-then-not-is_state : goal.returns-then-not-is_state
returns-then-not-is_state c = let other = by_cells _ _ _ _ _ c.fill.ensures.0 c.is_state.ensures (c.if-not-is_state.true) in
    ap (λ (a : Answer). ended a c.args.res.now) c.answered.ensures ∙ sym (start_length _ _ c.requires (eqb-false _ _ other))

pub begin-requires : goal.begin-requires
begin-requires c = eqb-true _ _ (by_cells _ _ _ _ _ c.fill.ensures.0 c.is_state.ensures (c.if-not-is_state.false))
