use Rattle.engine_lengths.proofs.Laws.{part_of_event, part_of_answer, whole-answers}
use Rattle.engine_lengths.proofs.is_list.Goals as goal

pub returns-then-events-ne0 : goal.returns-then-events-ne0
returns-then-events-ne0 c = part_of_event c.args.events c.args.answers c.if-events-ne0.true

pub returns-then-answers-ne0 : goal.returns-then-answers-ne0
returns-then-answers-ne0 c = part_of_answer c.args.events c.args.answers c.if-answers-ne0.true

pub returns : goal.returns
returns c = whole-answers c.args.events c.args.answers c.if-events-ne0.false c.if-answers-ne0.false
