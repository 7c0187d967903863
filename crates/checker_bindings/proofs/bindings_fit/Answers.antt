use Rattle.sheet_rules.specs.Shape.{binding_shape, bindings_shape}
use Rattle.std.proofs.Common.{rules}
use Rattle.checker_bindings.proofs.bindings_fit.Goals as goal

pub returns : goal.returns
unfolding bindings_shape
returns c = c.every_element.ensures (binding_shape c.args.sheet.now.sheet.now) (λ k r l is. search rules)
