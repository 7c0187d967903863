use mathlib.Core.Path.{◌≡◌, ap}
use native.Mathlib.Omega.{arith}
use mir.Syntax.{w32}
use mir.Val.{of_z, to_z}
use Rattle.machine.specs.State.{cell_at}
use Rattle.engine_valid_words.proofs.Laws.{below-from}
use Rattle.engine_context.proofs.Laws.{goes_outside, goes_below, goes_inside, goes_few}
use borrow.Author.Rules.{rules}
use mathlib.Core.Bool.{not}
use Rattle.engine_context.proofs.element_word.Goals as goal

pub returns-then-not-is_below : goal.returns-then-not-is_below
returns-then-not-is_below c = let h : to_z w32 (of_z w32 c.args.i) ≡ c.args.i = search rules in goes_outside c.args.context.now c.args.n c.args.i _ (rw h at c.is_below.ensures) (ap not c.if-not-is_below.true)

pub number-k-requires : goal.number-k-requires
number-k-requires c = let h : to_z w32 (of_z w32 c.args.i) ≡ c.args.i = search rules in rw h (below-from _ _ (goes_below c.args.context.now c.args.n c.args.i _ (rw h at c.is_below.ensures) (ap not c.if-not-is_below.false)))

pub overflow_add-first-2 : goal.overflow_add-first-2
overflow_add-first-2 c = let args = c.args in
    let h : to_z w32 (of_z w32 args.i) ≡ args.i = search rules in
    let few = goes_few args.context.now args.n args.i _ (rw h at c.is_below.ensures) (ap not c.if-not-is_below.false) _ (rw h at c.number-k.ensures) c.requires in
    record { fits = omega arith }

pub cell_at-requires : goal.cell_at-requires
unfolding cell_at
cell_at-requires c = let args = c.args in
    let h : to_z w32 (of_z w32 args.i) ≡ args.i = search rules in
    let few = goes_few args.context.now args.n args.i _ (rw h at c.is_below.ensures) (ap not c.if-not-is_below.false) _ (rw h at c.number-k.ensures) c.requires in
    omega arith

pub returns : goal.returns
returns c = let args = c.args in
    let h : to_z w32 (of_z w32 args.i) ≡ args.i = search rules in
    goes_inside args.context.now args.n args.i _ (rw h at c.is_below.ensures) (ap not c.if-not-is_below.false) _ (rw h at c.number-k.ensures) _ c.cell_at.ensures
