use Rattle.sheet.proofs.Sheet.{count_opened}
use Rattle.sheet_opened.proofs.Reader.count.Goals as goal

pub returns : goal.returns
returns c = count_opened _ _ _ c.count_in.ensures _ c.args.self.now.opened
