use Rattle.sheet_rules.proofs.Types.{literal-component}
use Rattle.sheet_types.proofs.Laws.{literal_1, literal_2, literal_3, literal_5}
use Rattle.sheet_types.proofs.literal_type.Goals as goal

pub returns-in-1 : goal.returns-in-1
returns-in-1 c = literal_1 _ c.in-1.is

pub returns-in-2 : goal.returns-in-2
returns-in-2 c = literal_2 _ c.in-2.is

pub returns-in-3 : goal.returns-in-3
returns-in-3 c = literal_3 _ c.in-3.is

pub returns-in-5 : goal.returns-in-5
returns-in-5 c = literal_5 _ c.in-5.is

pub returns-in_default : goal.returns-in_default
returns-in_default c = literal-component _ c.in_default.in_default-own.rest.0.0.0.1 c.in_default.in_default-own.rest.0.0.1 c.in_default.in_default-own.rest.0.1 c.in_default.in_default-own.rest.1
