use Rattle.engine_sending.proofs.Sends.{append_done, append-refused}
use Rattle.engine_sending.proofs.append.Goals as goal

pub returns-in-Ok : goal.returns-in-Ok
returns-in-Ok c = λ s lo e. append_done s _ _ _ lo _ _ _ (c.append.ensures.change s e) c.in-Ok.is

pub returns-in-Err : goal.returns-in-Err
returns-in-Err c = λ s lo e. append-refused s _ _ _ lo _ _ _ (c.append.ensures.change s e) c.in-Err.is c.in-Err.ensures.kept
