use native.Mathlib.Omega.{arith}
use Prim.Native.Nat.{zero-le}
use mathlib.Core.Path.{sym, ap}
use Rattle.sheet.proofs.All.{from_next}
use Rattle.sheet_rules.specs.Fields.{field_of}
use Rattle.sheet_rules.proofs.Fields.{field_past}
use Rattle.sheet_fields.proofs.field.Goals as goal

pub returns-in-0 : goal.returns-in-0
unfolding field_of
returns-in-0 c = (sym (ap (field_of c.args.r) c.in-0.is), omega arith)

pub returns-in-1 : goal.returns-in-1
unfolding field_of
returns-in-1 c = (sym (ap (field_of c.args.r) c.in-1.is), omega arith)

pub returns-in-2 : goal.returns-in-2
unfolding field_of
returns-in-2 c = (sym (ap (field_of c.args.r) c.in-2.is), omega arith)

pub returns-in-3 : goal.returns-in-3
unfolding field_of
returns-in-3 c = (sym (ap (field_of c.args.r) c.in-3.is), omega arith)

pub returns-in-4 : goal.returns-in-4
unfolding field_of
returns-in-4 c = (sym (ap (field_of c.args.r) c.in-4.is), omega arith)

pub returns-in-5 : goal.returns-in-5
unfolding field_of
returns-in-5 c = (sym (ap (field_of c.args.r) c.in-5.is), omega arith)

pub returns-in-6 : goal.returns-in-6
unfolding field_of
returns-in-6 c = (sym (ap (field_of c.args.r) c.in-6.is), omega arith)

pub returns-in-7 : goal.returns-in-7
unfolding field_of
returns-in-7 c = (sym (ap (field_of c.args.r) c.in-7.is), omega arith)

pub returns-in_default : goal.returns-in_default
returns-in_default c = (sym (field_past c.args.r c.args.i (from_next 7 _ (from_next 6 _ (from_next 5 _ (from_next 4 _ (from_next 3 _ (from_next 2 _ (from_next 1 _ (from_next 0 _ zero-le c.in_default.in_default-own.rest.0.0.0.0.0.0.0.1) c.in_default.in_default-own.rest.0.0.0.0.0.0.1) c.in_default.in_default-own.rest.0.0.0.0.0.1) c.in_default.in_default-own.rest.0.0.0.0.1) c.in_default.in_default-own.rest.0.0.0.1) c.in_default.in_default-own.rest.0.0.1) c.in_default.in_default-own.rest.0.1) c.in_default.in_default-own.rest.1)), omega arith)
