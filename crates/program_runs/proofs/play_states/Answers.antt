use Rattle.std.proofs.Common.{◌≡◌, rules, sym, ◌∙◌}
use Rattle.machine_claim.proofs.Kept.{begun}
use Rattle.program_runs.proofs.play_states.Goals as goal

pub play_begun-end-requires : goal.play_begun-end-requires
play_begun-end-requires g c =
    let args = c.args in
    let begin = c.begin-a in
    let p = c.requires in
    record {
      state = λ accepted. begun args.yard.now.sheet.sheet.now c.args.yard.now.passed args.st.now begin.result begin.new.st p.0 begin.ensures accepted;
      spare = p.1 ∙ sym begin.auto.st;
    }
