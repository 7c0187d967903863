use mathlib.Core.Path.{◌≡◌, sym, ◌∙◌}
use native.Mathlib.Omega.{arith}
use mir.Syntax.{w32}
use mir.Val.{of_z, to_z}
use borrow.Author.Rules.{rules}
use Rattle.engine_ready.proofs.Cells.{leads_inside}
use Rattle.engine_ready.proofs.Statements.{element_word_lem}
use Rattle.engine_data.proofs.Data.{on_word, on_stop}
use Rattle.engine_assigning.proofs.Acts.{element-operands, element_reaches, put_there, put_outside}
use Rattle.engine_assigning.proofs.assign_element.Goals as goal

pub eval-requires : goal.eval-requires
eval-requires c = (c.requires.ready, (element-operands _ _ _ _ _ _ c.requires).0)

pub eval-requires-2 : goal.eval-requires-2
eval-requires-2 c = (c.requires.ready, (element-operands _ _ _ _ _ _ c.requires).1)

pub returns-in_err-index : goal.returns-in_err-index
returns-in_err-index c = λ depth. on_stop _ _ _ _ _ _ c.from_residual.ensures.1 c.in_err-index.ensures
    ∙ sym (element_word_lem _ _ _ _ c.requires.ready _ _ c.requires.there c.requires.statement c.requires.form depth _)

pub returns-in_err-value : goal.returns-in_err-value
returns-in_err-value c = λ depth. on_stop _ _ _ _ _ _ c.from_residual-in_err-value.ensures.1 c.in_err-value.ensures
    ∙ on_word _ _ _ _ _ _ c.in_ok-index.ensures
    ∙ sym (element_word_lem _ _ _ _ c.requires.ready _ _ c.requires.there c.requires.statement c.requires.form depth _)

pub element_word-requires : goal.element_word-requires
element_word-requires c = (element_reaches _ _ _ _ _ _ c.requires).spans

pub returns-in_default : goal.returns-in_default
returns-in_default c = let index : to_z w32 (of_z w32 c.in_ok-index.index) ≡ c.in_ok-index.index = search rules in
    λ depth. put_outside _ _ _ _ _ _ (rw index at c.element_word.ensures) c.in_default.is
    ∙ on_word _ _ _ _ _ _ c.in_ok-value.ensures
    ∙ on_word _ _ _ _ _ _ c.in_ok-index.ensures
    ∙ sym (element_word_lem _ _ _ _ c.requires.ready _ _ c.requires.there c.requires.statement c.requires.form depth _)

pub offset_bounds-st-k : goal.offset_bounds-st-k
offset_bounds-st-k c = let index : to_z w32 (of_z w32 c.in_ok-index.index) ≡ c.in_ok-index.index = search rules in
    record { fits = omega (arith, leads_inside _ _ _ (element_reaches _ _ _ _ _ _ c.requires) _ _ (sym (rw index at c.element_word.ensures) ∙ c.in-Some.is)) }

pub bounds-st-k : goal.bounds-st-k
bounds-st-k c = let index : to_z w32 (of_z w32 c.in_ok-index.index) ≡ c.in_ok-index.index = search rules in
    leads_inside _ _ _ (element_reaches _ _ _ _ _ _ c.requires) _ _ (sym (rw index at c.element_word.ensures) ∙ c.in-Some.is)

pub returns : goal.returns
returns c = let index : to_z w32 (of_z w32 c.in_ok-index.index) ≡ c.in_ok-index.index = search rules in
    let value : to_z w32 (of_z w32 c.in_ok-value.value) ≡ c.in_ok-value.value = search rules in
    λ depth. rw value (put_there _ _ _ _ _ _ (rw index at c.element_word.ensures) _ c.in-Some.is
    ∙ on_word _ _ _ _ _ _ c.in_ok-value.ensures
    ∙ on_word _ _ _ _ _ _ c.in_ok-index.ensures
    ∙ sym (element_word_lem _ _ _ _ c.requires.ready _ _ c.requires.there c.requires.statement c.requires.form depth _))
