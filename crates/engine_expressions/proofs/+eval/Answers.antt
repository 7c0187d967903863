use Rattle.std.specs.Prelude.{Ok}
use Prim.Native.Nat.{◌-◌}
use mathlib.Core.Path.{◌≡◌, sym, ap, ◌∙◌}
use native.Mathlib.Omega.{arith}
use lib.IntN.{ℤ}
use mir.Syntax.{w32}
use mir.Val.{of_z, to_z}
use borrow.Author.Rules.{rules}
use Rattle.sheet_rules.proofs.Forms.{form-literal, form-binary, form-clock, form_expression}
use Rattle.engine_ints.proofs.Stops.{handed_on, word_then, stop_then}
use Rattle.engine_ready.proofs.Expressions.{absent_stuck, other_stuck, unary_low, unary_operand, clock_lies}
use Rattle.engine_leaves.proofs.Places.{element_low}
use Rattle.engine_expressions.proofs.Places.{form-read, form-element, form-unary, visit, refused_at_lem, literal-at, running_at_lem, value_at_lem, index_at_lem, reaches_at, element_at, not_at, operands_at, two_at}
use Rattle.engine_expressions.proofs.+eval.Goals as goal

pub returns-then-left-eq0 : goal.returns-then-left-eq0
returns-then-left-eq0 t c = refused_at_lem _ _ _ _ c.requires.0 _ _ c.if-left-eq0.true

pub returns-in_default : goal.returns-in_default
returns-in_default t c = visit _ _ _ _ _ _ c.if-left-eq0.false _ (sym (absent_stuck _ _ _ _ c.requires.0 _ _ (sym c.record.ensures ∙ c.in_default.is)))

pub variable-requires : goal.variable-requires
variable-requires t c = (c.requires.0, c.requires.1, sym c.record.ensures ∙ c.in-Some.is, form-read _ c.in-7.is)

-- ---- not

pub eval-requires : goal.eval-requires
eval-requires t c = let r-is = sym c.record.ensures ∙ c.in-Some.is in
    let unary = form-unary _ c.in-8.is in
    (omega (arith, c.decreases, unary_low _ _ _ _ c.requires.0 _ _ r-is c.requires.1 unary), (c.requires.0, unary_operand _ _ _ _ c.requires.0 _ _ r-is c.requires.1 unary))

pub returns-in_err-word-in-8 : goal.returns-in_err-word-in-8
returns-in_err-word-in-8 t c = visit _ _ _ _ _ _ c.if-left-eq0.false _
    (handed_on _ c.from_residual.ensures.1
    ∙ stop_then _ _ _ c.in_err-word-in-8.ensures
    ∙ not_at _ _ _ _ c.requires.0 _ _ (sym c.record.ensures ∙ c.in-Some.is) c.requires.1 (form-unary _ c.in-8.is) _)

pub returns-in_ok-word-in-8 : goal.returns-in_ok-word-in-8
returns-in_ok-word-in-8 t c = let h : to_z w32 (of_z w32 c.in_ok-word-in-8.word) ≡ c.in_ok-word-in-8.word = search rules in
    visit _ _ _ _ _ _ c.if-left-eq0.false _
    ((rw h at c.not.ensures)
    ∙ word_then _ _ _ _ c.in_ok-word-in-8.ensures
    ∙ not_at _ _ _ _ c.requires.0 _ _ (sym c.record.ensures ∙ c.in-Some.is) c.requires.1 (form-unary _ c.in-8.is) _)

-- ---- a clock

pub cell_word-requires : goal.cell_word-requires
cell_word-requires t c = (clock_lies _ _ _ _ c.requires.0 _ _ (sym c.record.ensures ∙ c.in-Some.is) c.requires.1 (form-clock _ (omega arith) (omega arith)), omega arith)

pub cell_word-requires-in-18 : goal.cell_word-requires-in-18
cell_word-requires-in-18 t c = (clock_lies _ _ _ _ c.requires.0 _ _ (sym c.record.ensures ∙ c.in-Some.is) c.requires.1 (form-clock _ (omega arith) (omega arith)), omega arith)

pub returns-in-17 : goal.returns-in-17
returns-in-17 t c = let args = c.args in
    let r-is = sym c.record.ensures ∙ c.in-Some.is in
    let h : to_z w32 (of_z w32 c.cell_word.result) ≡ c.cell_word.result = search rules in
    visit _ _ _ _ _ _ c.if-left-eq0.false _
    (ap (λ (z : ℤ). Ok (z, args.left - 1)) (h ∙ c.cell_word.ensures)
    ∙ running_at_lem _ _ _ _ c.requires.0 _ _ r-is c.requires.1 (form-clock _ (omega arith) (omega arith))
    c.in-17.is _)

pub returns-in-18 : goal.returns-in-18
returns-in-18 t c = let args = c.args in
    let r-is = sym c.record.ensures ∙ c.in-Some.is in
    let h : to_z w32 (of_z w32 c.cell_word-in-18.result) ≡ c.cell_word-in-18.result = search rules in
    visit _ _ _ _ _ _ c.if-left-eq0.false _
    (ap (λ (z : ℤ). Ok (z, args.left - 1)) (h ∙ c.cell_word-in-18.ensures)
    ∙ value_at_lem _ _ _ _ c.requires.0 _ _ r-is c.requires.1 (form-clock _ (omega arith) (omega arith))
    c.in-18.is _)

-- ---- an element of an array

pub eval-requires-in-19 : goal.eval-requires-in-19
eval-requires-in-19 t c = let o = index_at_lem _ _ _ _ c.requires.0 _ _ (sym c.record.ensures ∙ c.in-Some.is) c.requires.1 (form-element _ c.in-19.is) in
    (omega (arith, c.decreases, o.0), (c.requires.0, o.1))

pub element_at-requires : goal.element_at-requires
element_at-requires t c = reaches_at _ _ _ _ c.requires.0 _ _ (sym c.record.ensures ∙ c.in-Some.is) c.requires.1 (form-element _ c.in-19.is)

pub returns-in_err-index-in-19 : goal.returns-in_err-index-in-19
returns-in_err-index-in-19 t c = visit _ _ _ _ _ _ c.if-left-eq0.false _
    (handed_on _ c.from_residual-in_err-index-in-19.ensures.1
    ∙ stop_then _ _ _ c.in_err-index-in-19.ensures
    ∙ element_at _ _ _ _ c.requires.0 _ _ (sym c.record.ensures ∙ c.in-Some.is) c.requires.1 (form-element _ c.in-19.is) _)

pub returns-in_ok-index-in-19 : goal.returns-in_ok-index-in-19
returns-in_ok-index-in-19 t c = let h : to_z w32 (of_z w32 c.in_ok-index-in-19.index) ≡ c.in_ok-index-in-19.index = search rules in
    visit _ _ _ _ _ _ c.if-left-eq0.false _
    ((rw h at c.element_at.ensures)
    ∙ word_then _ _ _ _ c.in_ok-index-in-19.ensures
    ∙ element_at _ _ _ _ c.requires.0 _ _ (sym c.record.ensures ∙ c.in-Some.is) c.requires.1 (form-element _ c.in-19.is) _)

-- ---- a literal

pub literal-requires : goal.literal-requires
literal-requires t c = element_low _ _ _ _ c.requires.0

pub returns-in-1-to-6 : goal.returns-in-1-to-6
returns-in-1-to-6 t c = let args = c.args in
    let r-is = sym c.record.ensures ∙ c.in-Some.is in
    let h : to_z w32 (of_z w32 c.literal.result) ≡ c.literal.result = search rules in
    visit _ _ _ _ _ _ c.if-left-eq0.false _
    (ap (λ (z : ℤ). Ok (z, args.left - 1)) (h ∙ c.literal.ensures)
    ∙ literal-at _ _ _ _ c.requires.0 _ _ r-is c.requires.1 (form-literal _ (omega arith) (omega arith)) _)

-- ---- a variable

-- ---- an operator with two operands

pub eval-requires-in-9-to-16 : goal.eval-requires-in-9-to-16
eval-requires-in-9-to-16 t c = let o = operands_at _ _ _ _ c.requires.0 _ _ (sym c.record.ensures ∙ c.in-Some.is) c.requires.1 (form-binary _ (omega arith) (omega arith)) in
    (omega (arith, c.decreases, o.0), (c.requires.0, o.2))

pub eval-requires-in-9-to-16-2 : goal.eval-requires-in-9-to-16-2
eval-requires-in-9-to-16-2 t c = let o = operands_at _ _ _ _ c.requires.0 _ _ (sym c.record.ensures ∙ c.in-Some.is) c.requires.1 (form-binary _ (omega arith) (omega arith)) in
    (omega (arith, c.decreases, o.1), (c.requires.0, o.3))

pub returns-in_err-first-in-9-to-16 : goal.returns-in_err-first-in-9-to-16
returns-in_err-first-in-9-to-16 t c = visit _ _ _ _ _ _ c.if-left-eq0.false _
    (handed_on _ c.from_residual-in_err-first-in-9-to-16.ensures.1
    ∙ stop_then _ _ _ c.in_err-first-in-9-to-16.ensures
    ∙ two_at _ _ _ _ c.requires.0 _ _ (sym c.record.ensures ∙ c.in-Some.is) c.requires.1 (form-binary _ (omega arith) (omega arith)) _)

pub returns-in_err-second-in-9-to-16 : goal.returns-in_err-second-in-9-to-16
returns-in_err-second-in-9-to-16 t c = visit _ _ _ _ _ _ c.if-left-eq0.false _
    (handed_on _ c.from_residual-in_err-second-in-9-to-16.ensures.1
    ∙ stop_then _ _ _ c.in_err-second-in-9-to-16.ensures
    ∙ word_then _ _ _ _ c.in_ok-first-in-9-to-16.ensures
    ∙ two_at _ _ _ _ c.requires.0 _ _ (sym c.record.ensures ∙ c.in-Some.is) c.requires.1 (form-binary _ (omega arith) (omega arith)) _)

pub returns-in_ok-second-in-9-to-16 : goal.returns-in_ok-second-in-9-to-16
returns-in_ok-second-in-9-to-16 t c = let h : to_z w32 (of_z w32 c.in_ok-first-in-9-to-16.first) ≡ c.in_ok-first-in-9-to-16.first = search rules in
    let k : to_z w32 (of_z w32 c.in_ok-second-in-9-to-16.second) ≡ c.in_ok-second-in-9-to-16.second = search rules in
    visit _ _ _ _ _ _ c.if-left-eq0.false _
    ((rw (h, k) at c.binary.ensures)
    ∙ word_then _ _ _ _ c.in_ok-second-in-9-to-16.ensures
    ∙ word_then _ _ _ _ c.in_ok-first-in-9-to-16.ensures
    ∙ two_at _ _ _ _ c.requires.0 _ _ (sym c.record.ensures ∙ c.in-Some.is) c.requires.1 (form-binary _ (omega arith) (omega arith)) _)

-- ---- no expression

pub returns-in_default-op : goal.returns-in_default-op
returns-in_default-op t c = absurd (other_stuck _ _ _ _ c.requires.0 _ _ (sym c.record.ensures ∙ c.in-Some.is) c.requires.1 (form_expression _ (λ u v. omega arith)))

pub returns-in_default-op-2 : goal.returns-in_default-op-2
returns-in_default-op-2 t c = let r-is = sym c.record.ensures ∙ c.in-Some.is in
    absurd
    (other_stuck _ _ _ _ c.requires.0 _ _ r-is c.requires.1
    (form_expression _ (λ u v. omega arith)))
