use mathlib.Core.Path.{sym, ◌∙◌}
use Rattle.machine_events.proofs.Laws.{start_is}
use Rattle.engine.proofs.begin.Goals as goal

pub returns : goal.returns
returns c = c.from_defaults.ensures ∙ sym (start_is _ _ c.args.yard.now.passed c.requires)
