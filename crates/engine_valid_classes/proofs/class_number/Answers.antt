use Prim.Native.Nat.{ℕ, ◌+◌}
use mathlib.Core.Path.{sym, ap, ◌∙◌}
use native.Mathlib.Omega.{arith}
use Rattle.machine.specs.State.{telegram_in}
use Rattle.engine_valid_words.proofs.Laws.{below-from}
use Rattle.engine_valid_classes.proofs.Laws.{sender-below, receiver-below, number-inside, number-outside}
use Rattle.engine_valid_classes.proofs.class_number.Goals as goal

pub number_at-receiver-requires : goal.number_at-receiver-requires
unfolding telegram_in
number_at-receiver-requires c = (let l = c.requires.0 in omega arith, below-from _ 64 c.requires.1.receiver)

pub overflow_add-result : goal.overflow_add-result
unfolding telegram_in
overflow_add-result c = let q = c.number_at-receiver.ensures in let n = receiver-below _ c.requires.1 in record { fits = omega arith }

pub returns-then-is_internal : goal.returns-then-is_internal
unfolding telegram_in
returns-then-is_internal c = ap (λ (n : ℕ). 4096 + n) c.number_at-receiver.ensures ∙ number-inside _ (sym c.is_internal.ensures ∙ c.if-is_internal.true)

pub number_at-requires : goal.number_at-requires
unfolding telegram_in
number_at-requires c = (let l = c.requires.0 in omega arith, below-from _ 64 c.requires.1.sender)

pub overflow_mul-result : goal.overflow_mul-result
unfolding telegram_in
overflow_mul-result c = let p = c.number_at.ensures in let q = c.number_at-receiver.ensures in let m = sender-below _ c.requires.1 in let n = receiver-below _ c.requires.1 in record { fits = omega arith }

pub overflow_add-result-2 : goal.overflow_add-result-2
unfolding telegram_in
overflow_add-result-2 c = let p = c.number_at.ensures in let q = c.number_at-receiver.ensures in let m = sender-below _ c.requires.1 in let n = receiver-below _ c.requires.1 in record { fits = omega arith }

pub returns : goal.returns
unfolding telegram_in
returns c = let p = c.number_at.ensures in let q = c.number_at-receiver.ensures in omega (arith, number-outside (telegram_in c.args.st.now c.args.at) (sym c.is_internal.ensures ∙ c.if-is_internal.false))
