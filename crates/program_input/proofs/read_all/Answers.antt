use Rattle.std.proofs.Common.{◌-◌, ◌≤◌, length, ◌∙◌, arith, rules, subst}
use borrow.Rule.Slice.PartMut.{same_len_mid}
use Rattle.std.specs.Io.KnownBytes.{Consumes}
use Rattle.std.proofs.KnownBytes.{Consumes-trans}
use Rattle.program_input.proofs.Answers.{read_behind}
use Rattle.program_input.proofs.read_all.Goals as goal

pub loop-count-preserved : goal.loop-count-preserved
loop-count-preserved g c =
    let count = c.loop-count.count in
    let room = c.loop-count.room in
    let came = c.read_some in
    let n = c.in-Ok.n in
    let here : count ≤ length room = omega (arith, c.loop-count-test.true) in
    let same = same_len_mid count (length room - count) room came.new.room came.auto.room in
    let fits : n ≤ length came.new.room = search rules in
    let joined = read_behind count (length room - count) n room came.new.room here fits in (
      same ∙ c.loop-count.invariant.0,
      search rules,
      subst (Consumes _ _) joined (Consumes-trans _ _ _ _ _ c.loop-count.invariant.2 c.in-Ok.ensures.bytes.0),
    )
