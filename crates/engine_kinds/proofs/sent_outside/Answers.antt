use Rattle.engine_kinds.proofs.Calls.{sent, not-sent}
use Rattle.engine_kinds.proofs.sent_outside.Goals as goal

pub returns-in-Ok : goal.returns-in-Ok
returns-in-Ok c = λ s l. sent s _ _ _ _ (c.append.ensures.change s l) _ c.in-Ok.is _ c.answered.ensures

pub returns-in-Err : goal.returns-in-Err
returns-in-Err c = λ s l. not-sent s _ _ _ _ (c.append.ensures.change s l) _ c.in-Err.is c.in-Err.ensures.kept _ c.answered-in-Err.ensures
