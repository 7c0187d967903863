use mathlib.Core.Path.{sym, ◌∙◌}
use native.Mathlib.Omega.{arith}
use lib.IntN.{pos, negsuc}
use lib.ListN.{get_or}
use Rattle.engine_rows.proofs.Laws.{given}
use Rattle.engine_ready.specs.Ready.{context_at}
use Rattle.engine_ready.proofs.Statements.{internal-there, internal_data, internal_word}
use Rattle.engine_data.proofs.Data.{no_record}
use Rattle.engine_sending.proofs.Sends.{element-small}
use Rattle.engine_sending.proofs.internal_send.Goals as goal

pub returns-in_default : goal.returns-in_default
returns-in_default c = no_record (sym c.in_default.is ∙ c.record.ensures) (internal-there _ _ _ _ c.requires.ready _ _ c.requires.there c.requires.statement c.requires.form)

pub overflow_cast-element : goal.overflow_cast-element
overflow_cast-element c = let h = element-small _ _ c.requires.ready.running in record { sfits = omega arith }

pub send-requires : goal.send-requires
send-requires c = let a-is = sym c.record.ensures ∙ c.in-Some.is in
    (c.requires.ready, internal_data _ _ _ _ c.requires.ready _ _ c.requires.there c.requires.statement c.requires.form _ a-is, a-is)

pub returns : goal.returns
unfolding context_at
returns c = let args = c.args in
    let a-is = sym c.record.ensures ∙ c.in-Some.is in
    λ depth.
    let h = element-small _ _ c.requires.ready.running in
    (rw (given (pos (get_or args.context.now 0 0)) (omega arith), given (negsuc 0) (omega arith)) at c.send.ensures)
    ∙ sym (internal_word _ _ _ _ c.requires.ready _ _ c.requires.there c.requires.statement c.requires.form _ a-is depth _)
