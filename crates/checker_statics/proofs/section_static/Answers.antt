use Prim.Native.Nat.{ℕ}
use mathlib.Core.Path.{◌≡◌, sym, ap, ◌∙◌}
use mathlib.Core.Bool.{true}
use mathlib.Core.List.{List}
use native.Mathlib.Omega.{arith}
use Rattle.sheet.specs.Table.{look_up}
use Rattle.sheet.proofs.All.{all_true}
use Rattle.sheet.proofs.Sheet.{record_present}
use Rattle.sheet_rules.proofs.Fields.{holds-present}
use Rattle.sheet_rules.proofs.Shape.{static-each, static-bindings}
use Rattle.sheet_rules.specs.Static.{record_static, each_static, section_static}
use Rattle.checker_statics.proofs.section_static.Goals as goal

nodes-free : (s : List ℕ) → each_static s 6 ≡ true
unfolding each_static record_static look_up
nodes-free s = all_true _ _ (λ i l. holds-present _ _ (record_static s 6) (record_present s 6 i l))

pub returns-then-k-eq6 : goal.returns-then-k-eq6
returns-then-k-eq6 c = (sym (ap (section_static c.args.sheet.now.sheet.now) c.if-k-eq6.true ∙ static-each _ 6 (λ q. omega arith) ∙ nodes-free c.args.sheet.now.sheet.now), c.requires)

pub returns-then-k-eq7 : goal.returns-then-k-eq7
returns-then-k-eq7 c = (c.bindings_static.ensures ∙ sym (static-bindings _ _ c.if-k-eq7.true), c.requires)

pub returns : goal.returns
returns c = (c.records_static.ensures.0 ∙ sym (static-each _ _ c.if-k-eq7.false), c.records_static.ensures.1)
