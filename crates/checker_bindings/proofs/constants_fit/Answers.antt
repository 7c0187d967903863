use Rattle.sheet_rules.specs.Shape.{constant_shape, constants_shape}
use Rattle.std.proofs.Common.{rules}
use Rattle.checker_bindings.proofs.constants_fit.Goals as goal

pub returns : goal.returns
unfolding constants_shape
returns c = c.every_constant.ensures (λ j n. constant_shape c.args.sheet.now.sheet.now n) (λ j n r l m is. search rules)
