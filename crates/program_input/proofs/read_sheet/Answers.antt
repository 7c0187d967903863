use Rattle.std.proofs.Common.{◌∙◌, arith, length-take-le}
use Rattle.program_input.proofs.Sheets.{sheet_came_if}
use Rattle.program_input.proofs.read_sheet.Goals as goal

pub returns-clause-bytes : goal.returns-clause-bytes
returns-clause-bytes g c =
    let head = c.read_all in
    let came = c.in-Ok in
    let sheet = c.read_all-2 in
    let size = c.sheet_size-size in
    let asked = length-take-le size.result c.args.sheet.now (omega (arith, size.ensures.1, c.requires)) in
    sheet_came_if _ _ _ head.new.room _ sheet.new.room _ came.came _ sheet.result came.is head.auto.room head.ensures.count head.ensures.bytes head.ensures.end (asked ∙ size.ensures.0) sheet.auto.room sheet.ensures.count sheet.ensures.bytes sheet.ensures.end
