use native.Mathlib.Omega.{arith}
use mathlib.Core.Path.{sym}
use Rattle.checker_pass.proofs.Times.{named_more, named_same}
use Rattle.checker_marks.proofs.once_more.Goals as goal

pub returns-then-v-lt2 : goal.returns-then-v-lt2
returns-then-v-lt2 c = sym (named_more _ (omega arith))

pub returns : goal.returns
returns c = sym (named_same _ (omega arith))
