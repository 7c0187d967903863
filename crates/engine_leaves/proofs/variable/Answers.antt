use Rattle.std.specs.Prelude.{Ok}
use native.Mathlib.Omega.{arith}
use mathlib.Core.Path.{◌≡◌, sym, ap, ◌∙◌}
use lib.IntN.{ℤ}
use mir.Syntax.{w32}
use mir.Val.{of_z, to_z}
use Rattle.engine_ints.proofs.Range.{back}
use Rattle.engine_ready.proofs.Expressions.{local_inside, no_other_place, variable_lies}
use Rattle.engine_leaves.proofs.Places.{element_low, bound_low, variable_at_lem, local_at, constant_unbound, constant_at, constant_none}
use borrow.Author.Rules.{rules}
use Rattle.engine_leaves.proofs.variable.Goals as goal

pub constant_record-k-requires : goal.constant_record-k-requires
constant_record-k-requires c = bound_low _ _ _ _ c.requires.0

pub returns-in_default-record : goal.returns-in_default-record
returns-in_default-record c = let enum-told-is = sym c.record.ensures ∙ c.in_default-record.is in
    constant_unbound _ _ _ _ c.requires.0 _ _ c.requires.2 c.requires.1 c.requires.3 c.in-0.is _ c.constant_record-k.ensures enum-told-is _

pub returns-in_default-record-2 : goal.returns-in_default-record-2
returns-in_default-record-2 c = let b-is = sym c.record.ensures ∙ c.in-Some.is in
    let enum-told2-is = sym c.record-in-0.ensures ∙ c.in_default-record-2.is in
    constant_none _ _ _ _ c.requires.0 _ _ c.requires.2 c.requires.1 c.requires.3 c.in-0.is _ c.constant_record-k.ensures _ b-is _ _ c.constant_field-i.ensures
    c.field.ensures.0 enum-told2-is _

pub literal-requires : goal.literal-requires
literal-requires c = element_low _ _ _ _ c.requires.0

pub cell_word-requires : goal.cell_word-requires
cell_word-requires c = (variable_lies _ _ _ _ c.requires.0 _ _ c.requires.2 c.requires.1 c.requires.3 c.in-1.is, omega arith)

pub bounds-lo-number : goal.bounds-lo-number
bounds-lo-number c = local_inside _ _ _ _ c.requires.0 _ _ c.requires.2 c.requires.1 c.requires.3 c.in-2.is

pub returns-in-Some-record : goal.returns-in-Some-record
returns-in-Some-record c = let args = c.args in
    let b-is = sym c.record.ensures ∙ c.in-Some.is in
    let c-here-is = sym c.record-in-0.ensures ∙ c.in-Some-record.is in
    let h : to_z w32 (of_z w32 c.literal.result) ≡ c.literal.result = search rules in
    ap (λ (z : ℤ). Ok (z, args.left)) (h ∙ c.literal.ensures)
    ∙ constant_at _ _ _ _ c.requires.0 _ _ c.requires.2 c.requires.1 c.requires.3 c.in-0.is _ c.constant_record-k.ensures _ b-is _ _ c.constant_field-i.ensures
    c.field.ensures.0 _ c-here-is _

pub returns-in-1 : goal.returns-in-1
returns-in-1 c = let h : to_z w32 (of_z w32 c.cell_word.result) ≡ c.cell_word.result = search rules in ap (λ (z : ℤ). Ok (z, c.args.left)) (h ∙ c.cell_word.ensures) ∙ variable_at_lem _ _ _ _ c.requires.0 _ _ c.requires.2 c.requires.1 c.requires.3 c.in-1.is _

pub returns-in-2 : goal.returns-in-2
returns-in-2 c = ap (λ (z : ℤ). Ok (z, c.args.left)) (back (record { sfits = omega arith })) ∙ local_at _ _ _ _ c.requires.0 _ _ c.requires.2 c.requires.1 c.requires.3 c.in-2.is _

pub returns-in_default : goal.returns-in_default
returns-in_default c = absurd (no_other_place _ _ _ _ c.requires.0 _ _ c.requires.2 c.requires.1 c.requires.3 (omega arith) (omega arith) (omega arith))
