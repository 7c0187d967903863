use Rattle.std.proofs.Common.{refl, ◌+◌, ◌-◌, length, ◌∙◌, arith}
use Rattle.std.proofs.lemmas.Slice.{put_mid-paste}
use Rattle.program_text.proofs.Laws.{placed-all}
use Rattle.program_text.proofs.put_bytes.Goals as goal

pub returns : goal.returns
returns c =
    let xs = c.args.out.now in
    let at = c.args.at in
    let t = c.args.bytes.now in
    let n = length t in
    (record { text = put_mid-paste at (at + n - at) xs c.copy_from_slice.new.self t n c.copy_from_slice.ensures.after (omega arith) refl ∙ placed-all xs at t n refl; end = refl }, omega arith)
