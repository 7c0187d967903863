-- What an act on a clock comes to.
use Prim.Native.Nat.{ℕ, zero, suc}
use mathlib.Core.Path.{◌≡◌, refl, sym}
use mathlib.Core.List.{List, ◌∷◌}
use mathlib.Core.Bool.{Bool, true, false, not}
use native.Mathlib.Omega.{arith}
use native.Mathlib.Decide.{ℕ_discrete}
use lib.ListN.{replicate}
use lib.Dec.{eqb}
use lib.IntN.{ℤ, pos, negsuc}
use lib.Signed.{le_z, lt_z}
use mir.Syntax.{w32}
use mir.Val.{of_z, to_z}
use borrow.Author.Tests.{le-ltb, eq-eqb, ne_eqb, le-leb}
use Rattle.sheet.specs.declared.Record.{Record}
use Rattle.machine.specs.declared.Ran.TheVariants.{Done, Refused}
use Rattle.sheet_rules.specs.Forms.{clock_act, arm}
use Rattle.sheet_rules.specs.Types.{clock_of}
use Rattle.machine.specs.State.{cell_at, put_words}
use Rattle.machine.specs.Eval.{bool_word}
use Rattle.machine.specs.Run.{world, armed, clock_set, run_of}
use Rattle.machine_passed.proofs.Indices.{clock-plain}
use Rattle.engine_context.specs.Context.{cell_in}
use Rattle.engine_ready.specs.Ready.{context_at, Lies}
use Rattle.engine_ready.specs.Words.{four_words}
use Rattle.engine_ready.proofs.Cells.{lies}
use Rattle.engine_ready.proofs.Statements.{act_inside, act_clock, arm-inside, arm-clock, started_word, stopped_word}
use Rattle.engine_data.specs.Visit.{Visit}
use Rattle.engine_arming.specs.Armed.{armed_value}

-- ---- clocks

module _ (s w : List ℕ) (st lo : List ℤ) (n : ℕ) (r : Record) where
  pub act_lies : (v : Visit s w st lo n r clock_act) → Lies w st r.f1
  act_lies v = lies s w st lo v.ready r.f1 (act_inside s w st lo v.ready n r v.there v.statement v.form) (clock-plain s v.ready.running.passed _ (act_clock s w st lo v.ready n r v.there v.statement v.form))

  pub clock-runs : (v : Visit s w st lo n r clock_act) (depth l : ℕ) → world (Done l) (put_words st (cell_at (cell_in w r.f1)) (bool_word (eqb r.f0 38) ∷ replicate 7 (pos 0))) lo ≡ run_of s depth (context_at s w) n (suc l) st lo
  unfolding clock_set
  clock-runs v depth l = elim (ℕ_discrete r.f0 38) [
    | yes h ↦ (
        let q = eq-eqb r.f0 38 h in
        rw q (sym (started_word s w st lo v.ready n r v.there v.statement v.form h depth l)))
    | no h ↦ (
        let q = ne_eqb r.f0 38 h in
        rw q (sym (stopped_word s w st lo v.ready n r v.there v.statement v.form h depth l)))
  ]

  pub arm_lies : (v : Visit s w st lo n r arm) → Lies w st r.f1
  arm_lies v = lies s w st lo v.ready r.f1 (arm-inside s w st lo v.ready n r v.there v.statement v.form) (clock-plain s v.ready.running.passed _ (arm-clock s w st lo v.ready n r v.there v.statement v.form))

-- ---- arming

pub value_timeout : (op : ℕ) (period : ℤ) → op ≡ 36 → period ≡ armed_value (clock_of op) period
unfolding clock_of
value_timeout op period e = rw (clock_of, eq-eqb op 36 e) refl

pub value_cycler : (op : ℕ) (period : ℤ) → (op ≡ 36 → ⊥) → pos 0 ≡ armed_value (clock_of op) period
unfolding clock_of
value_cycler op period n = rw (clock_of, ne_eqb op 36 n) (go (eqb op 37))
  where
    go : (b : Bool) → pos 0 ≡ armed_value (elim b [ true ↦ 6 | false ↦ 4 ]) period
    go true = refl
    go false = refl

pub value_back_lem : (t : ℕ) (period z : ℤ) → to_z w32 (of_z w32 period) ≡ period → z ≡ armed_value t period → to_z w32 (of_z w32 z) ≡ armed_value t period
value_back_lem t period z h e = rw e (go (eqb t 5))
  where
    go : (b : Bool) → to_z w32 (of_z w32 (elim b [ true ↦ period | false ↦ pos 0 ])) ≡ elim b [ true ↦ period | false ↦ pos 0 ]
    go true = h
    go false = refl

below_one : (period : ℤ) (b : Bool) → lt_z period (pos 1) ≡ b → le_z (pos 1) period ≡ not b
below_one (pos zero) b e = rw (sym e) refl
below_one (pos (suc n)) b e = rw (sym e, le-ltb (suc n) 1 (omega arith)) (le-leb 1 (suc n) (omega arith))
below_one (negsuc n) b e = rw (sym e) refl

module _ (cell t : ℕ) (period : ℤ) (name : ℕ) (zs : List ℤ) (l : ℕ) (st lo : List ℤ) where
  pub armed_not : lt_z period (pos 1) ≡ true → world (Refused 7 l) st lo ≡ armed cell t period name zs l st lo
  unfolding armed
  armed_not e = rw (armed, below_one period true e) refl

  pub armed_so : lt_z period (pos 1) ≡ false → world (Done l) (put_words st cell (pos 1 ∷ armed_value t period ∷ period ∷ pos name ∷ four_words zs)) lo ≡ armed cell t period name zs l st lo
  unfolding armed
  armed_so e = rw (armed, below_one period false e) refl
