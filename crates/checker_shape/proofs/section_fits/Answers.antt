use Prim.Native.Nat.{ℕ}
use mathlib.Core.Path.{◌≡◌, sym, ap, ◌∙◌}
use mathlib.Core.Bool.{true}
use mathlib.Core.List.{List}
use native.Mathlib.Omega.{arith}
use Rattle.sheet.specs.Table.{look_up}
use Rattle.sheet.proofs.All.{all_true}
use Rattle.sheet.proofs.Sheet.{record_present}
use Rattle.sheet_rules.proofs.Fields.{holds-present}
use Rattle.sheet_rules.proofs.Shape.{section-each, section-bindings}
use Rattle.sheet_rules.specs.Shape.{record_shape, each_shape, section_shape}
use Rattle.checker_shape.proofs.section_fits.Goals as goal

nodes-free : (s : List ℕ) → each_shape s 6 ≡ true
unfolding each_shape record_shape look_up
nodes-free s = all_true _ _ (λ i l. holds-present _ _ (record_shape s 6 i) (record_present s 6 i l))

pub returns-then-k-eq6 : goal.returns-then-k-eq6
returns-then-k-eq6 c = sym (ap (section_shape c.args.sheet.now.sheet.now) c.if-k-eq6.true ∙ section-each _ 6 (λ q. omega arith) ∙ nodes-free c.args.sheet.now.sheet.now)

pub returns-then-k-eq7 : goal.returns-then-k-eq7
returns-then-k-eq7 c = c.bindings_fit.ensures ∙ sym (section-bindings _ _ c.if-k-eq7.true)

pub returns : goal.returns
returns c = c.records_fit.ensures ∙ sym (section-each _ _ c.if-k-eq7.false)
