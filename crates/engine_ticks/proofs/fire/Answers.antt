use Prim.Native.Nat.{◌+◌}
use mathlib.Core.Path.{ap, ◌∙◌}
use borrow.Author.Rules.{rules}
use Rattle.machine.specs.State.{word_of, appended}
use Rattle.engine_ticks.proofs.Laws.{number_back_lem}
use Rattle.engine_ticks.proofs.fire.Goals as goal

pub returns : goal.returns
unfolding word_of
returns c = λ s w.
    let name = number_back_lem (word_of c.args.st.now (c.args.at + 3)) c.requires.0.name in
    ap (appended s c.args.st.now) (search rules) ∙ c.append.ensures.change s w
