use mathlib.Core.Path.{ap, ◌∙◌}
use Prim.Native.Nat.{◌+◌}
use borrow.Author.Tests.{lt-ltb, le-ltb, eq-eqb, ne_eqb}
use Rattle.sheet.proofs.All.{first_fails_lem, rest_fails, first_holds}
use Rattle.sheet_rules.specs.Fields.{zero_from}
use Rattle.checker_nodes.proofs.call_fits.Goals as goal

pub returns-then-c-r : goal.returns-then-c-r
returns-then-c-r c = first_fails_lem _ _ (le-ltb _ _ c.if-c-r.true)

pub returns-then-r-ne0 : goal.returns-then-r-ne0
returns-then-r-ne0 c = rest_fails _ _ (first_fails_lem _ _ (ne_eqb _ _ c.if-r-ne0.true))

pub returns-then-r-ne0-2 : goal.returns-then-r-ne0-2
returns-then-r-ne0-2 c = rest_fails _ _ (rest_fails _ _ (first_fails_lem _ _ (ne_eqb _ _ c.if-r-ne0-2.true)))

pub returns : goal.returns
returns c = first_holds _ _ _ (lt-ltb _ _ c.if-c-r.false) (first_holds _ _ _ (eq-eqb _ _ c.if-r-ne0.false) (first_holds _ _ _ (eq-eqb _ _ c.if-r-ne0-2.false) (c.zero_from.ensures ∙ ap (λ n. zero_from (4 + n) c.args.r) c.call_data.ensures.0)))
