use mathlib.Core.Path.{sym, ap, ◌∙◌}
use Rattle.sheet_rules.specs.Fields.{externals_of}
use Rattle.machine.specs.Values.{is_below}
use Rattle.machine.specs.Play.{ended}
use Rattle.machine_events.proofs.Laws.{handed_outside}
use Rattle.engine_rows.proofs.Laws.{given}
use Rattle.engine_delivery.proofs.delivers.Goals as goal

pub returns-then-is_below : goal.returns-then-is_below
returns-then-is_below c = let a = c.args in
    let word = ap (λ z. is_below z (externals_of a.yard.now.sheet.sheet.now)) (sym (given a.t.receiver c.struct_told-1.given.1.0.1)) in
    let below = word ∙ ap (is_below _) (sym c.externals.ensures.0) ∙ sym c.is_below.ensures ∙ c.if-is_below.true in
    ap (λ x. ended x a.st.now) c.handed.ensures ∙ sym (handed_outside _ a.old.now a.t _ below)

pub deliver_to_element-requires : goal.deliver_to_element-requires
deliver_to_element-requires c = let a = c.args in
    let word = ap (λ z. is_below z (externals_of a.yard.now.sheet.sheet.now)) (sym (given a.t.receiver c.struct_told-1.given.1.0.1)) in
    let far = word ∙ ap (is_below _) (sym c.externals.ensures.0) ∙ sym c.is_below.ensures ∙ c.if-is_below.false in
    (c.requires, far)

pub returns : goal.returns
returns c = c.deliver_to_element.ensures
