-- The recursion equation of `eval_of`: enough fuel is enough.
use Rattle.std.specs.Prelude.{Option, Some, None}
use Prim.Native.Nat.{ℕ, zero, suc, ◌≤◌, ◌<◌}
use mathlib.Core.Path.{◌≡◌, refl, ap, ◌∙◌}
use mathlib.Core.List.{List}
use native.Mathlib.Omega.{arith}
use lib.IntN.{ℤ}
use Rattle.sheet.specs.declared.Record.{Record}
use Rattle.sheet.specs.Names.{nodes, operator}
use Rattle.sheet.specs.Sheet.{record_of}
use Rattle.machine.specs.declared.Value.{Value}
use Rattle.machine.specs.declared.Out.{Out}
use Rattle.machine.specs.declared.Out.TheVariants.{Val, Refused, Stuck}
use Rattle.sheet_rules.specs.Forms.{Form, literal, read, unary, binary, clock, read_element, skip, assign, external_send, internal_send, arm, clock_act, call, choice, loop, sequence, assign_element, unknown, form_of}
use Rattle.machine.specs.Eval.{Context, and_then, on_record, not_val, binary_val, element_val, eval_in, eval_step, eval_f, eval_of}
use Rattle.machine_equations.proofs.Left.{Within, eval_f_in}

-- what follows a value matters with fewer steps left only
same_then : (o : Out) (K L : Value → ℕ → Out) (l : ℕ) → Within l o → ((v : Value) (m : ℕ) → m < l → K v m ≡ L v m) → and_then o K ≡ and_then o L
unfolding and_then
same_then (Val v m) K L l p h = h v m p
same_then (Refused k m) K L l p h = refl
same_then Stuck K L l p h = refl

same_record : (f : Option Record) (K L : Record → Out) → ((r : Record) → K r ≡ L r) → on_record f K ≡ on_record f L
unfolding on_record
same_record (Some r) K L h = h r
same_record None K L h = refl

module _ (s : List ℕ) (x : Context) (st lo : List ℤ) where
  -- what works out the operands of a node visited with l + 1 steps left matters with at most l
  module _ (f g : ℕ → ℕ → Out) (l : ℕ) (bound : (n m : ℕ) → Within m (f n m)) (h : (n m : ℕ) → m ≤ l → f n m ≡ g n m) where
    same_act : (r : Record) (form : Form) → eval_in s x st lo f r l form ≡ eval_in s x st lo g r l form
    unfolding eval_in
    same_act r literal = refl
    same_act r read = refl
    same_act r unary = ap (λ o. and_then o not_val) (h r.f1 l (omega arith))
    same_act r binary =
        same_then (f r.f1 l) _ _ l (bound r.f1 l) (λ a m q. ap (λ o. and_then o (λ b l. binary_val (operator r) a b l)) (h r.f2 m (omega arith)))
        ∙ ap (λ o. and_then o (λ a l. and_then (g r.f2 l) (λ b l. binary_val (operator r) a b l))) (h r.f1 l (omega arith))
    same_act r clock = refl
    same_act r read_element = ap (λ o. and_then o (λ i l. element_val s x st r.f1 i l)) (h r.f2 l (omega arith))
    same_act r skip = refl
    same_act r assign = refl
    same_act r external_send = refl
    same_act r internal_send = refl
    same_act r arm = refl
    same_act r clock_act = refl
    same_act r call = refl
    same_act r choice = refl
    same_act r loop = refl
    same_act r sequence = refl
    same_act r assign_element = refl
    same_act r unknown = refl

    same_visit : (n : ℕ) → eval_step s x st lo f n (suc l) ≡ eval_step s x st lo g n (suc l)
    unfolding eval_step
    same_visit n = same_record (record_of s nodes n) _ _ (λ r. same_act r (form_of (operator r)))

  enough : (k k' n l : ℕ) → l < k → l < k' → eval_f s x st lo k n l ≡ eval_f s x st lo k' n l
  unfolding eval_f eval_step
  enough zero k' n l h h' = absurd (omega arith)
  enough (suc k) zero n l h h' = absurd (omega arith)
  enough (suc k) (suc k') n zero h h' = refl
  enough (suc k) (suc k') n (suc l) h h' = same_visit (eval_f s x st lo k) (eval_f s x st lo k') l (eval_f_in s x st lo k) (λ n m q. enough k k' n m (omega arith) (omega arith)) n

  -- "a visit that would pass [the limit] is refused"
  pub eval_none : (n : ℕ) → eval_of s x st lo n 0 ≡ Refused 10 0
  unfolding eval_of eval_f eval_step
  eval_none n = refl

  -- "Visiting a node adds one step, then its operands go in field order, then its own act."
  pub eval_visit : (n l : ℕ) → eval_of s x st lo n (suc l) ≡ on_record (record_of s nodes n) (λ r. eval_in s x st lo (eval_of s x st lo) r l (form_of (operator r)))
  unfolding eval_of eval_f eval_step
  eval_visit n l = same_visit (eval_f s x st lo (suc l)) (eval_of s x st lo) l (eval_f_in s x st lo (suc l)) (λ n m q. enough (suc l) (suc m) n m (omega arith) (omega arith)) n
