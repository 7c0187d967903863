use Rattle.sheet.specs.Sheet.{record_at}
use Rattle.sheet_reader.proofs.fields_at.Goals as goal

pub returns : goal.returns
unfolding record_at
returns c = λ i. record { f0 = c.word_at.ensures i; f1 = c.word_at-2.ensures i; f2 = c.word_at-3.ensures i; f3 = c.word_at-4.ensures i; f4 = c.word_at-5.ensures i; f5 = c.word_at-6.ensures i; f6 = c.word_at-7.ensures i; f7 = c.word_at-8.ensures i }
