-- Statements that run others: which of them, with how many steps left.
use Rattle.std.specs.Prelude.{Some, None, Result, Ok, Err}
use Rattle.std.specs.Result.{IsErrAnd}
use Prim.Native.Nat.{ℕ, suc, ◌-◌, ◌<◌, ◌≤◌}
use mathlib.Core.Path.{◌≡◌, refl, sym, ap, subst, ◌∙◌}
use mathlib.Core.List.{List}
use mathlib.Core.Bool.{true, false}
use native.Mathlib.Omega.{arith}
use native.Mathlib.Decide.{dec_lt, ℕ_discrete}
use lib.IntN.{ℤ}
use Rattle.sheet.specs.declared.Record.{Record}
use Rattle.sheet.specs.Names.{nodes, operator}
use Rattle.sheet.specs.Sheet.{record_of}
use Rattle.machine.specs.declared.Out.{Out}
use Rattle.machine.specs.declared.Out.TheVariants as out
use Rattle.machine.specs.declared.Ran.TheVariants.{Done, Refused, Stuck}
use Rattle.sheet.specs.Table.{look_up}
use Rattle.sheet_rules.specs.Forms.{Form, literal, read, unary, binary, clock, read_element, assign, external_send, internal_send, call, choice, loop, sequence, assign_element, unknown, form_of}
use Rattle.machine.specs.Values.{is_zero}
use Rattle.machine.specs.Eval.{Context, eval_of}
use Rattle.machine.specs.Run.{World, world, go_on, then_run, with_record, run_in, run_of}
use Rattle.sheet_rules.proofs.Forms.{form-literal, form-binary, form-clock, form-unknown}
use Rattle.machine_equations.proofs.Left.{Within, RanWithin, eval_left, run-left}
use Rattle.machine_equations.proofs.Run.{run-visit}
use Rattle.engine_ints.specs.declared.Stop.{Stop}
use Rattle.engine_ints.specs.declared.Stop.TheVariants as stop
use Rattle.engine_ints.specs.Work.{work_of, ran_of}
use Rattle.engine_ints.proofs.Stops.{handed_on}
use Rattle.engine_ready.specs.Ready.{context_at, Ready, IsStatement}
use Rattle.engine_ready.specs.Words.{then_word}
use Rattle.engine_ready.proofs.Statements.{no_steps, absent, ready_after_lem, skipped, choice_word, loop_word, loop-body, sequence-runs}
use Rattle.engine_data.specs.Visit.{Visit}
use Rattle.engine_data.specs.Data.{work_at}
use Rattle.engine_data.proofs.Data.{on_word, on_stop}

-- ---- fewer steps are left

pub word_left : (s : List ℕ) (x : Context) (st lo : List ℤ) (n l : ℕ) (z : ℤ) (m : ℕ) → Ok (z, m) ≡ work_of (eval_of s x st lo n l) → m < l
unfolding work_of
word_left s x st lo n l z m e = go (eval_of s x st lo n l) (eval_left s x st lo n l) e
  where
    go : (o : Out) → Within l o → Ok (z, m) ≡ work_of o → m < l
    go (out.Val v k) h e = let p : ◌≡◌ {A = ℤ × ℕ} (z, m) (v.word, k) = cc in let q = ap (λ p. p.1) p in omega arith
    go (out.Refused k j) h e = cc
    go out.Stuck h e = cc

pub done_left : (s : List ℕ) (depth : ℕ) (x : Context) (n l : ℕ) (st lo : List ℤ) (m : ℕ) (st' lo' : List ℤ) → world (Done m) st' lo' ≡ run_of s depth x n l st lo → m < l
done_left s depth x n l st lo m st' lo' e = subst (λ v. RanWithin l v.ran) (sym e) (run-left s depth x n l st lo)

-- ---- one statement, then another

module _ (v : World) (K : ℕ → List ℤ → List ℤ → World) (st lo : List ℤ) where
  pub then_done : (m : ℕ) → world (Done m) st lo ≡ v → K m st lo ≡ then_run v K
  unfolding go_on
  then_done m e = ap (λ v. then_run v K) e

  pub then_stopped : (d : Stop) → world (ran_of (Err d)) st lo ≡ v → world (ran_of (Err d)) st lo ≡ then_run v K
  unfolding go_on
  then_stopped (stop.Refused k m) e = ap (λ v. then_run v K) e
  then_stopped stop.Stuck e = ap (λ v. then_run v K) e

  -- what a `?` returns
  pub then_stop : (o : Result ℕ Stop) (d : Stop) → IsErrAnd o (λ e. e ≡ d) → world (ran_of (Err d)) st lo ≡ v → world (ran_of o) st lo ≡ then_run v K
  then_stop o d h e = ap (λ o. world (ran_of o) st lo) (handed_on o h) ∙ then_stopped d e

-- ---- nodes

-- a step that is there
pub step_there : (l : ℕ) → (l ≡ 0 → ⊥) → l ≡ suc (l - 1)
step_there l h = omega arith

module _ (s w : List ℕ) (st lo : List ℤ) (ready : Ready s w st lo) (n : ℕ) where
  abbrev x : Context
  x = context_at s w

  pub none_left : (depth l : ℕ) → l ≡ 0 → world (Refused 10 0) st lo ≡ run_of s depth x n l st lo
  none_left depth l e = rw e (sym (no_steps s w st lo ready depth n))

  pub no_node : (depth l : ℕ) → (l ≡ 0 → ⊥) → record_of s nodes n ≡ None → world Stuck st lo ≡ run_of s depth x n l st lo
  no_node depth l h e = sym (ap (λ l. run_of s depth x n l st lo) (step_there l h) ∙ absent s w st lo ready depth n (l - 1) e)

  module _ (r : Record) (there : record_of s nodes n ≡ Some r) where
    -- "everything unknown", and expressions
    pub other_stuck : (depth l : ℕ) → (32 ≤ r.f0 → r.f0 ≤ 44 → ⊥) → world Stuck st lo ≡ run_of s depth x n (suc l) st lo
    unfolding with_record run_in form_of look_up
    other_stuck depth l h = sym (run-visit s depth x n l st lo ∙ ap (λ f. with_record f st lo (λ r. run_in s x (run_of s) depth n r l st lo (form_of (operator r)))) there ∙ form-stuck)
      where
        stuck : (F : Form) → form_of r.f0 ≡ F → run_in s x (run_of s) depth n r l st lo F ≡ world Stuck st lo → run_in s x (run_of s) depth n r l st lo (form_of r.f0) ≡ world Stuck st lo
        stuck F q e = ap (run_in s x (run_of s) depth n r l st lo) q ∙ e

        form-stuck : run_in s x (run_of s) depth n r l st lo (form_of r.f0) ≡ world Stuck st lo
        form-stuck = elim (dec_lt r.f0 1) [
          | yes a ↦ stuck unknown (form-unknown r.f0 (λ p q. omega arith) (λ p q. omega arith)) refl
          | no a ↦ elim (dec_lt r.f0 7) [
            | yes b ↦ stuck literal (form-literal r.f0 (omega arith) (omega arith)) refl
            | no b ↦ elim (dec_lt r.f0 9) [
              | yes c ↦ elim (ℕ_discrete r.f0 7) [ yes d ↦ stuck read (ap form_of d) refl | no d ↦ stuck unary (ap form_of (eight (omega arith) (omega arith))) refl ]
              | no c ↦ elim (dec_lt r.f0 17) [
                | yes d ↦ stuck binary (form-binary r.f0 (omega arith) (omega arith)) refl
                | no d ↦ elim (dec_lt r.f0 19) [
                  | yes e ↦ stuck clock (form-clock r.f0 (omega arith) (omega arith)) refl
                  | no e ↦ elim (ℕ_discrete r.f0 19) [ yes f ↦ stuck read_element (ap form_of f) refl | no f ↦ stuck unknown (form-unknown r.f0 (λ p q. omega arith) h) refl ]
                ]
              ]
            ]
          ]
        ]
          where
            eight : 8 ≤ r.f0 → r.f0 ≤ 8 → r.f0 ≡ 8
            eight p q = omega arith

    module _ (i : IsStatement s w n) where
      pub visit : (F : Form) → form_of r.f0 ≡ F → Visit s w st lo n r F
      visit F q = record { ready = ready; statement = i; there = there; form = q }

      pub skips : r.f0 ≡ 32 → (depth l : ℕ) → world (Done l) st lo ≡ run_of s depth x n (suc l) st lo
      unfolding form_of look_up
      skips q depth l = sym (skipped s w st lo ready n r there i (ap form_of q) depth l)

module _ (s w : List ℕ) (st lo : List ℤ) (n : ℕ) (r : Record) where
  -- ---- a choice

  module _ (v : Visit s w st lo n r choice) (depth l : ℕ) where
    abbrev choosing : ℤ → ℕ → World
    choosing z m = elim (is_zero z) [ true ↦ run_of s depth (context_at s w) r.f3 m st lo | false ↦ run_of s depth (context_at s w) r.f2 m st lo ]

    chooses : run_of s depth (context_at s w) n (suc l) st lo ≡ then_word (work_at s w st lo r.f1 l) st lo choosing
    chooses = choice_word s w st lo v.ready n r v.there v.statement v.form depth l

    pub choice_no : (z : ℤ) (m : ℕ) → Ok (z, m) ≡ work_at s w st lo r.f1 l → is_zero z ≡ true → run_of s depth (context_at s w) r.f3 m st lo ≡ run_of s depth (context_at s w) n (suc l) st lo
    choice_no z m e q = ap (λ b. elim b as (λ b. World) [ true ↦ run_of s depth (context_at s w) r.f3 m st lo | false ↦ run_of s depth (context_at s w) r.f2 m st lo ]) (sym q) ∙ on_word _ st lo choosing z m e ∙ sym chooses

    pub choice_yes : (z : ℤ) (m : ℕ) → Ok (z, m) ≡ work_at s w st lo r.f1 l → is_zero z ≡ false → run_of s depth (context_at s w) r.f2 m st lo ≡ run_of s depth (context_at s w) n (suc l) st lo
    choice_yes z m e q = ap (λ b. elim b as (λ b. World) [ true ↦ run_of s depth (context_at s w) r.f3 m st lo | false ↦ run_of s depth (context_at s w) r.f2 m st lo ]) (sym q) ∙ on_word _ st lo choosing z m e ∙ sym chooses

    pub choice_stop : (o : Result ℕ Stop) (d : Stop) → IsErrAnd o (λ e. e ≡ d) → Err d ≡ work_at s w st lo r.f1 l → world (ran_of o) st lo ≡ run_of s depth (context_at s w) n (suc l) st lo
    choice_stop o d h e = on_stop _ st lo choosing o d h e ∙ sym chooses

  -- ---- a loop

  module _ (v : Visit s w st lo n r loop) (depth l : ℕ) where
    abbrev turning : ℤ → ℕ → World
    turning z m = elim (is_zero z) [ true ↦ world (Done m) st lo | false ↦ then_run (run_of s depth (context_at s w) r.f2 m st lo) (λ m st lo. run_of s depth (context_at s w) n m st lo) ]

    turns : run_of s depth (context_at s w) n (suc l) st lo ≡ then_word (work_at s w st lo r.f1 l) st lo turning
    turns = loop_word s w st lo v.ready n r v.there v.statement v.form depth l

    pub loop_ends : (z : ℤ) (m : ℕ) → Ok (z, m) ≡ work_at s w st lo r.f1 l → is_zero z ≡ true → world (Done m) st lo ≡ run_of s depth (context_at s w) n (suc l) st lo
    loop_ends z m e q = ap (λ b. elim b as (λ b. World) [ true ↦ world (Done m) st lo | false ↦ then_run (run_of s depth (context_at s w) r.f2 m st lo) (λ m st lo. run_of s depth (context_at s w) n m st lo) ]) (sym q) ∙ on_word _ st lo turning z m e ∙ sym turns

    pub loop_stop : (o : Result ℕ Stop) (d : Stop) → IsErrAnd o (λ e. e ≡ d) → Err d ≡ work_at s w st lo r.f1 l → world (ran_of o) st lo ≡ run_of s depth (context_at s w) n (suc l) st lo
    loop_stop o d h e = on_stop _ st lo turning o d h e ∙ sym turns

    -- a turn
    module _ (z : ℤ) (m : ℕ) (e : Ok (z, m) ≡ work_at s w st lo r.f1 l) (q : is_zero z ≡ false) where
      turn : then_run (run_of s depth (context_at s w) r.f2 m st lo) (λ m st lo. run_of s depth (context_at s w) n m st lo) ≡ run_of s depth (context_at s w) n (suc l) st lo
      turn = ap (λ b. elim b as (λ b. World) [ true ↦ world (Done m) st lo | false ↦ then_run (run_of s depth (context_at s w) r.f2 m st lo) (λ m st lo. run_of s depth (context_at s w) n m st lo) ]) (sym q) ∙ on_word _ st lo turning z m e ∙ sym turns

      module _ (st' lo' : List ℤ) where
        pub turn_stop : (o : Result ℕ Stop) (d : Stop) → IsErrAnd o (λ e. e ≡ d) → world (ran_of (Err d)) st' lo' ≡ run_of s depth (context_at s w) r.f2 m st lo → world (ran_of o) st' lo' ≡ run_of s depth (context_at s w) n (suc l) st lo
        turn_stop o d i h = then_stop _ (λ m st lo. run_of s depth (context_at s w) n m st lo) st' lo' o d i h ∙ turn

        module _ (j : ℕ) (h : world (Done j) st' lo' ≡ run_of s depth (context_at s w) r.f2 m st lo) where
          pub turn_visit : Visit s w st' lo' n r loop
          turn_visit = record { ready = ready_after_lem s w st lo v.ready depth r.f2 m (loop-body s w st lo v.ready n r v.there v.statement v.form) j st' lo' (sym h); statement = v.statement; there = v.there; form = v.form }

          -- "a visit that would pass [the limit] is refused"
          pub turn_none_lem : j ≡ 0 → world (Refused 10 0) st' lo' ≡ run_of s depth (context_at s w) n (suc l) st lo
          turn_none_lem k = none_left s w st' lo' turn_visit.ready n depth j k ∙ then_done _ (λ m st lo. run_of s depth (context_at s w) n m st lo) st' lo' j h ∙ turn

          pub turn_again : (j ≡ 0 → ⊥) → run_of s depth (context_at s w) n (suc l) st lo ≡ run_of s depth (context_at s w) n (suc (j - 1)) st' lo'
          turn_again k = sym (ap (λ l. run_of s depth (context_at s w) n l st' lo') (sym (step_there j k)) ∙ then_done _ (λ m st lo. run_of s depth (context_at s w) n m st lo) st' lo' j h ∙ turn)

  -- ---- a sequence

  module _ (v : Visit s w st lo n r sequence) (depth l : ℕ) (st' lo' : List ℤ) where
    abbrev onward : ℕ → List ℤ → List ℤ → World
    onward m st lo = run_of s depth (context_at s w) r.f2 m st lo

    runs : run_of s depth (context_at s w) n (suc l) st lo ≡ then_run (run_of s depth (context_at s w) r.f1 l st lo) onward
    runs = sequence-runs s w st lo v.ready n r v.there v.statement v.form depth l

    pub first_done : (m : ℕ) → world (Done m) st' lo' ≡ run_of s depth (context_at s w) r.f1 l st lo → run_of s depth (context_at s w) r.f2 m st' lo' ≡ run_of s depth (context_at s w) n (suc l) st lo
    first_done m h = then_done _ onward st' lo' m h ∙ sym runs

    pub first_stop : (o : Result ℕ Stop) (d : Stop) → IsErrAnd o (λ e. e ≡ d) → world (ran_of (Err d)) st' lo' ≡ run_of s depth (context_at s w) r.f1 l st lo → world (ran_of o) st' lo' ≡ run_of s depth (context_at s w) n (suc l) st lo
    first_stop o d i h = then_stop _ onward st' lo' o d i h ∙ sym runs

-- ---- as code meets them

pub step_back : {v : World} (s : List ℕ) (depth : ℕ) (x : Context) (n l : ℕ) (st lo : List ℤ) → (l ≡ 0 → ⊥) → v ≡ run_of s depth x n (suc (l - 1)) st lo → v ≡ run_of s depth x n l st lo
step_back s depth x n l st lo h e = e ∙ ap (λ l. run_of s depth x n l st lo) (sym (step_there l h))

module _ (op : ℕ) where
  pub form-assign-element : op ≡ 44 → form_of op ≡ assign_element
  unfolding form_of look_up
  form-assign-element e = ap form_of e

  pub form-assign : op ≡ 33 → form_of op ≡ assign
  unfolding form_of look_up
  form-assign e = ap form_of e

  pub form-external : op ≡ 34 → form_of op ≡ external_send
  unfolding form_of look_up
  form-external e = ap form_of e

  pub form-internal : op ≡ 35 → form_of op ≡ internal_send
  unfolding form_of look_up
  form-internal e = ap form_of e

  pub form-call : op ≡ 40 → form_of op ≡ call
  unfolding form_of look_up
  form-call e = ap form_of e

  pub form-choice : op ≡ 41 → form_of op ≡ choice
  unfolding form_of look_up
  form-choice e = ap form_of e

  pub form-loop : op ≡ 42 → form_of op ≡ loop
  unfolding form_of look_up
  form-loop e = ap form_of e

  pub form-sequence : op ≡ 43 → form_of op ≡ sequence
  unfolding form_of look_up
  form-sequence e = ap form_of e
