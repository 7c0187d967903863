use Prim.Native.Nat.{◌+◌}
use Rattle.sheet_rules.specs.Fields.{type_at}
use Rattle.sheet_rules.specs.Static.{constant_static, constants_static}
use Rattle.std.proofs.Common.{rules}
use Rattle.checker_constants.proofs.constants_static.Goals as goal

pub returns : goal.returns
unfolding constants_static
returns c = c.every_constant.ensures (λ j n. constant_static c.args.sheet.now.sheet.now n (type_at c.args.sheet.now.sheet.now (c.args.c.f0 + j))) (λ j n r l m is. search rules)
