use mathlib.Core.Path.{ap, ◌∙◌}
use native.Mathlib.Omega.{arith}
use Rattle.machine.specs.Run.{append}
use Rattle.engine_queue.proofs.Laws.{laid}
use Rattle.engine_data.proofs.Data.{four_data, data_given, on_data, data_stop}
use Rattle.engine_sending.proofs.Sends.{element-small, telegram_made}
use Rattle.engine_sending.proofs.send.Goals as goal

pub gather-requires : goal.gather-requires
gather-requires c = (c.requires.0, rw c.data_range-g.ensures c.requires.1, rw c.data_range-g.ensures (four_data _ _ c.requires.0.running _ _ c.requires.2))

pub overflow_cast-context : goal.overflow_cast-context
overflow_cast-context c = let h = element-small _ _ c.requires.0.running in record { sfits = omega arith }

pub append-requires : goal.append-requires
append-requires c = laid _ _ c.requires.0.state

pub returns-in_err-data : goal.returns-in_err-data
returns-in_err-data c = data_stop _ _ _ _ _ _ c.from_residual.ensures.1 (rw c.data_range-g.ensures at c.in_err-data.ensures)

pub returns : goal.returns
returns c = let args = c.args in
    let d = data_given _ _ _ (rw c.data_range-g.ensures at c.in_ok-data.ensures) in
    let made = telegram_made _ _ _ args.r.f3 c.in_ok-data.data d.0 (element-small _ _ c.requires.0.running) c.ranges.receiver c.ranges.port (omega arith) (omega arith) (omega arith) (omega arith) (omega arith) d.1 in
    c.append.ensures args.sheet.now.sheet.now args.lo.now c.requires.0.state.whole
    ∙ ap (λ t. append args.sheet.now.sheet.now t c.in_ok-data.left args.st.now args.lo.now) made
    ∙ on_data _ _ _ _ _ _ d.2
