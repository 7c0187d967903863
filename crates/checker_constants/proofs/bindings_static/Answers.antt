use Rattle.sheet_rules.specs.Static.{binding_static, bindings_static}
use Rattle.std.proofs.Common.{rules}
use Rattle.checker_constants.proofs.bindings_static.Goals as goal

pub returns : goal.returns
unfolding bindings_static
returns c = c.every_element.ensures (binding_static c.args.sheet.now.sheet.now) (λ k r l is. search rules)
