use Rattle.engine_kinds.proofs.Calls.{slice_done, slice-refused}
use Rattle.engine_kinds.proofs.sliced.Goals as goal

pub returns-in-Ok : goal.returns-in-Ok
returns-in-Ok c = slice_done _ c.args.yard.now.passed _ _ _ c.requires.1 _ c.slice.ensures _ c.in-Ok.is _ c.answered.ensures

pub returns-in-Err : goal.returns-in-Err
returns-in-Err c = slice-refused _ c.args.yard.now.passed _ _ _ c.requires.1 _ c.slice.ensures _ c.in-Err.is _ _ c.copy.ensures c.answered-in-Err.ensures
