-- The recursion equation of `run_of`: enough fuel is enough, and the guard on the steps left is never met.
use Rattle.std.specs.Prelude.{Option, Some, None}
use Prim.Native.Nat.{ℕ, zero, suc, ◌+◌, ◌≤◌, ◌<◌}
use mathlib.Core.Path.{◌≡◌, refl, ap, ◌∙◌, fun_ext}
use mathlib.Core.List.{List}
use mathlib.Core.Bool.{Bool, true, false}
use native.Mathlib.Omega.{arith}
use lib.Dec.{ltb, eqb}
use lib.IntN.{ℤ}
use borrow.Author.Tests.{ltb-true, lt-ltb}
use Rattle.sheet.specs.declared.Record.{Record}
use Rattle.sheet.specs.Names.{nodes, body_parameters, root, operator, bool_type}
use Rattle.sheet.specs.Sheet.{record_of}
use Rattle.machine.specs.declared.Value.{Value}
use Rattle.machine.specs.declared.Out.{Out}
use Rattle.machine.specs.declared.Out.TheVariants as out
use Rattle.machine.specs.declared.Ran.{Ran}
use Rattle.machine.specs.declared.Ran.TheVariants.{Done, Refused, Stuck}
use Rattle.sheet_rules.specs.Forms.{Form, literal, read, unary, binary, clock, read_element, skip, assign, external_send, internal_send, arm, clock_act, call, choice, loop, sequence, assign_element, unknown, form_of, called_body}
use Rattle.machine.specs.Values.{is_zero}
use Rattle.machine.specs.Eval.{Context, eval_of}
use Rattle.machine.specs.Run.{World, world, go_on, then_run, then_operand, with_record, provided, Values, given, refused, stuck, values_from, then_values, are_of, words_in, locals_of, locals_there, Runs, fewer, in_body, entered, call_of, choice_of, run_in, run_step, run_f, run_of, open_calls}
use Rattle.machine_equations.proofs.Left.{Within, ValuesWithin, RanWithin, eval_left, values_left_lem, run-left}

-- what runs the parts matters with fewer steps left only
fewer_same : (left : ℕ) (f g : Runs) → ((depth : ℕ) (x : Context) (n l : ℕ) (st lo : List ℤ) → l < left → f depth x n l st lo ≡ g depth x n l st lo) → fewer left f ≡ fewer left g
unfolding fewer
fewer_same left f g h = fun_ext (λ depth. fun_ext (λ x. fun_ext (λ n. fun_ext (λ l. fun_ext (λ st. fun_ext (λ lo. go depth x n l st lo (ltb l left) (ltb-true l left)))))))
  where
    go : (depth : ℕ) (x : Context) (n l : ℕ) (st lo : List ℤ) (t : Bool) → (t ≡ true → l < left) → ◌≡◌ {A = World} (elim t [ true ↦ f depth x n l st lo | false ↦ world Stuck st lo ]) (elim t [ true ↦ g depth x n l st lo | false ↦ world Stuck st lo ])
    go depth x n l st lo true q = h depth x n l st lo (q refl)
    go depth x n l st lo false q = refl

fewer_low : (left : ℕ) (f : Runs) (depth : ℕ) (x : Context) (n l : ℕ) (st lo : List ℤ) → l < left → fewer left f depth x n l st lo ≡ f depth x n l st lo
unfolding fewer
fewer_low left f depth x n l st lo h = rw (fewer, lt-ltb l left h) refl

-- ---- parts that follow each other, where what follows is the same for every number of steps that can be left

same_choice : (b : Bool) (w w' v v' : World) → w ≡ w' → v ≡ v' → ◌≡◌ {A = World} (elim b [ true ↦ w | false ↦ v ]) (elim b [ true ↦ w' | false ↦ v' ])
same_choice true w w' v v' e e' = e
same_choice false w w' v v' e e' = e'

same_go_on : (o : Ran) (st lo : List ℤ) (K L : ℕ → List ℤ → List ℤ → World) (l : ℕ) → RanWithin l o → ((m : ℕ) (st lo : List ℤ) → m < l → K m st lo ≡ L m st lo) → go_on o st lo K ≡ go_on o st lo L
unfolding go_on
same_go_on (Done m) st lo K L l p q = q m st lo p
same_go_on (Refused k m) st lo K L l p q = refl
same_go_on Stuck st lo K L l p q = refl

same_operand : (o : Out) (st lo : List ℤ) (K L : Value → ℕ → World) (l : ℕ) → Within l o → ((v : Value) (m : ℕ) → m < l → K v m ≡ L v m) → then_operand o st lo K ≡ then_operand o st lo L
unfolding then_operand
same_operand (out.Val v m) st lo K L l p q = q v m p
same_operand (out.Refused k m) st lo K L l p q = refl
same_operand out.Stuck st lo K L l p q = refl

same_values_lem : (d : Values) (st lo : List ℤ) (K L : List Value → ℕ → World) (l : ℕ) → ValuesWithin l d → ((vs : List Value) (m : ℕ) → m ≤ l → K vs m ≡ L vs m) → then_values d st lo K ≡ then_values d st lo L
unfolding then_values
same_values_lem (given vs m) st lo K L l p q = q vs m p
same_values_lem (refused k m) st lo K L l p q = refl
same_values_lem stuck st lo K L l p q = refl

same_record : (f : Option Record) (st lo : List ℤ) (K L : Record → World) → ((r : Record) → K r ≡ L r) → with_record f st lo K ≡ with_record f st lo L
unfolding with_record
same_record (Some r) st lo K L q = q r
same_record None st lo K L q = refl

-- ---- the guard

module _ (s : List ℕ) (x : Context) (depth l : ℕ) where
  -- every part of a node that is visited with l + 1 steps left has at most l
  guarded : Runs
  guarded = fewer (suc l) (run_of s)

  free : (depth : ℕ) (x : Context) (n m : ℕ) (st lo : List ℤ) → m ≤ l → guarded depth x n m st lo ≡ run_of s depth x n m st lo
  unfolding guarded
  free depth x n m st lo h = fewer_low (suc l) (run_of s) depth x n m st lo (omega arith)

  free_entered : (b : Record) (zs : List ℤ) (m : ℕ) (st lo : List ℤ) → m ≤ l → entered s x guarded depth b zs m st lo ≡ entered s x (run_of s) depth b zs m st lo
  unfolding entered
  free_entered b zs m st lo h = same_choice (ltb depth open_calls) _ _ _ _ (ap (λ w. provided (locals_there s b) st lo (world w.ran w.st lo)) (free (depth + 1) (in_body x b) (root b) m st (locals_of s b zs) h)) refl

  free_call : (r : Record) (st lo : List ℤ) → call_of s x guarded depth r l st lo ≡ call_of s x (run_of s) depth r l st lo
  unfolding call_of
  free_call r st lo =
      same_record (called_body s x.chart r) st lo _ _ (λ b.
      same_values_lem (values_from (eval_of s x st lo) r (body_parameters b).count 0 l) st lo _ _ l (values_left_lem s x st lo r (body_parameters b).count 0 l) (λ vs m h.
      ap (provided (are_of s (body_parameters b).first vs) st lo) (free_entered b (words_in vs) m st lo h)))

  free_choice : (n : ℕ) (st lo : List ℤ) (K K' L L' : ℕ → World) → ((m : ℕ) → m ≤ l → K m ≡ K' m) → ((m : ℕ) → m ≤ l → L m ≡ L' m) → choice_of s x n l st lo K L ≡ choice_of s x n l st lo K' L'
  unfolding choice_of
  free_choice n st lo K K' L L' p q = same_operand (eval_of s x st lo n l) st lo _ _ l (eval_left s x st lo n l) (λ v m h. ap (provided (eqb v.kind bool_type) st lo) (same_choice (is_zero v.word) _ _ _ _ (q m (omega arith)) (p m (omega arith))))

  -- one part, then another on what the first left
  free_then : (n n' m : ℕ) (st lo : List ℤ) → m ≤ l → then_run (guarded depth x n m st lo) (λ l st lo. guarded depth x n' l st lo) ≡ then_run (run_of s depth x n m st lo) (λ l st lo. run_of s depth x n' l st lo)
  free_then n n' m st lo h =
      ap (λ w. then_run w (λ l st lo. guarded depth x n' l st lo)) (free depth x n m st lo h)
      ∙ same_go_on (run_of s depth x n m st lo).ran _ _ _ _ m (run-left s depth x n m st lo) (λ m' st lo q. free depth x n' m' st lo (omega arith))

  free_run : (n : ℕ) (r : Record) (st lo : List ℤ) (form : Form) → run_in s x guarded depth n r l st lo form ≡ run_in s x (run_of s) depth n r l st lo form
  unfolding run_in
  free_run n r st lo literal = refl
  free_run n r st lo read = refl
  free_run n r st lo unary = refl
  free_run n r st lo binary = refl
  free_run n r st lo clock = refl
  free_run n r st lo read_element = refl
  free_run n r st lo skip = refl
  free_run n r st lo assign = refl
  free_run n r st lo external_send = refl
  free_run n r st lo internal_send = refl
  free_run n r st lo arm = refl
  free_run n r st lo clock_act = refl
  free_run n r st lo call = free_call r st lo
  free_run n r st lo choice = free_choice r.f1 st lo _ _ _ _ (λ m h. free depth x r.f2 m st lo h) (λ m h. free depth x r.f3 m st lo h)
  free_run n r st lo loop = free_choice r.f1 st lo _ _ _ _ (λ m h. free_then r.f2 n m st lo h) (λ m h. refl)
  free_run n r st lo sequence = free_then r.f1 r.f2 l st lo (omega arith)
  free_run n r st lo assign_element = refl
  free_run n r st lo unknown = refl

-- ---- the equations

module _ (s : List ℕ) where
  enough : (k k' depth : ℕ) (x : Context) (n l : ℕ) (st lo : List ℤ) → l < k → l < k' → run_f s k depth x n l st lo ≡ run_f s k' depth x n l st lo
  unfolding run_f
  enough zero k' depth x n l st lo h h' = absurd (omega arith)
  enough (suc k) zero depth x n l st lo h h' = absurd (omega arith)
  enough (suc k) (suc k') depth x n l st lo h h' = ap (λ f. run_step s f depth x n l st lo) (fewer_same l (run_f s k) (run_f s k') (λ depth x n m st lo q. enough k k' depth x n m st lo (omega arith) (omega arith)))

  run_step_lem : (depth : ℕ) (x : Context) (n l : ℕ) (st lo : List ℤ) → run_of s depth x n l st lo ≡ run_step s (fewer l (run_of s)) depth x n l st lo
  unfolding run_f run_of
  run_step_lem depth x n l st lo = ap (λ f. run_step s f depth x n l st lo) (fewer_same l (run_f s l) (run_of s) (λ depth x n m st lo q. enough l (suc m) depth x n m st lo q (omega arith)))

  -- "a visit that would pass [the limit] is refused"
  pub run_none : (depth : ℕ) (x : Context) (n : ℕ) (st lo : List ℤ) → run_of s depth x n 0 st lo ≡ world (Refused 10 0) st lo
  unfolding run_step
  run_none depth x n st lo = run_step_lem depth x n 0 st lo

  -- "Visiting a node adds one step, then its operands go in field order, then its own act."
  pub run-visit : (depth : ℕ) (x : Context) (n l : ℕ) (st lo : List ℤ) → run_of s depth x n (suc l) st lo ≡ with_record (record_of s nodes n) st lo (λ r. run_in s x (run_of s) depth n r l st lo (form_of (operator r)))
  unfolding run_step guarded
  run-visit depth x n l st lo = run_step_lem depth x n (suc l) st lo ∙ same_record (record_of s nodes n) st lo _ _ (λ r. free_run s x depth l n r st lo (form_of (operator r)))
