use mathlib.Core.Path.{◌≡◌, sym, ◌∙◌}
use mir.Syntax.{w32}
use mir.Val.{of_z, to_z}
use borrow.Author.Rules.{rules}
use Rattle.engine_ready.specs.Ready.{context_at}
use Rattle.engine_ready.proofs.Statements.{receiver_operand, port_operand, external-name, external_data, external_word}
use Rattle.engine_data.proofs.Data.{on_word, on_stop, no_record}
use Rattle.engine_sending.proofs.external_send.Goals as goal

pub returns-in_default : goal.returns-in_default
returns-in_default c = no_record (sym c.in_default.is ∙ c.record.ensures) (external-name _ _ _ _ c.requires.ready _ _ c.requires.there c.requires.statement c.requires.form)

pub eval-requires : goal.eval-requires
eval-requires c = (c.requires.ready, receiver_operand _ _ _ _ c.requires.ready _ _ c.requires.there c.requires.statement c.requires.form)

pub returns-in_err-receiver : goal.returns-in_err-receiver
returns-in_err-receiver c = λ depth. on_stop _ _ _ _ _ _ c.from_residual.ensures.1 c.in_err-receiver.ensures
    ∙ sym (external_word _ _ _ _ c.requires.ready _ _ c.requires.there c.requires.statement c.requires.form _ (sym c.record.ensures ∙ c.in-Some.is) depth _)

pub eval-requires-2 : goal.eval-requires-2
eval-requires-2 c = (c.requires.ready, port_operand _ _ _ _ c.requires.ready _ _ c.requires.there c.requires.statement c.requires.form)

pub returns-in_err-port : goal.returns-in_err-port
returns-in_err-port c = λ depth. on_stop _ _ _ _ _ _ c.from_residual-in_err-port.ensures.1 c.in_err-port.ensures
    ∙ on_word _ _ _ _ _ _ c.in_ok-receiver.ensures
    ∙ sym (external_word _ _ _ _ c.requires.ready _ _ c.requires.there c.requires.statement c.requires.form _ (sym c.record.ensures ∙ c.in-Some.is) depth _)

pub send-requires : goal.send-requires
send-requires c = let a-is = sym c.record.ensures ∙ c.in-Some.is in
    (c.requires.ready, external_data _ _ _ _ c.requires.ready _ _ c.requires.there c.requires.statement c.requires.form _ a-is, a-is)

pub returns : goal.returns
unfolding context_at
returns c = let receiver : to_z w32 (of_z w32 c.in_ok-receiver.receiver) ≡ c.in_ok-receiver.receiver = search rules in
    let port : to_z w32 (of_z w32 c.in_ok-port.port) ≡ c.in_ok-port.port = search rules in
    λ depth. (rw (receiver, port) at c.send.ensures)
    ∙ on_word _ _ _ _ _ _ c.in_ok-port.ensures
    ∙ on_word _ _ _ _ _ _ c.in_ok-receiver.ensures
    ∙ sym (external_word _ _ _ _ c.requires.ready _ _ c.requires.there c.requires.statement c.requires.form _ (sym c.record.ensures ∙ c.in-Some.is) depth _)
