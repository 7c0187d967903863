use mathlib.Core.Path.{sym, ap, ◌∙◌}
use lib.ListN.{get_or}
use Rattle.sheet.proofs.Sheet.{count-there, count_past}
use Rattle.sheet_reader.proofs.count_in.Goals as goal

pub returns-then-section-lt8 : goal.returns-then-section-lt8
returns-then-section-lt8 c = ap (λ i. get_or c.args.directory.now i 0) c.count_place-place.ensures ∙ sym (count-there _ _ c.if-section-lt8.true)

pub returns : goal.returns
returns c = sym (count_past _ _ c.if-section-lt8.false)
