-- Start is not stuck, and after 0 its state is of the sheet.
use Prim.Native.Nat.{ℕ, zero, suc, ◌+◌, ◌≤◌}
use mathlib.Core.Path.{◌≡◌, refl, sym, ap, subst, ◌∙◌}
use mathlib.Core.List.{List, []}
use mathlib.Core.Logic.{inl, inr}
use mathlib.Core.Bool.{true, false}
use native.Mathlib.Omega.{arith}
use lib.ListN.{length}
use lib.Dec.{eqb}
use lib.IntN.{ℤ}
use borrow.Author.Tests.{eqb-true, lt-ltb, le-leb, eq-eqb}
use Rattle.sheet.specs.Names.{role, initial}
use Rattle.sheet.proofs.All.{and-true}
use Rattle.machine.specs.declared.Ran.{Ran}
use Rattle.machine.specs.declared.Ran.TheVariants.{Done, Refused, Stuck}
use Rattle.sheet_rules.specs.declared.Checked.TheVariants.{Passed}
use Rattle.sheet_rules.specs.Fields.{components_of, externals_of, elements_of}
use Rattle.machine.specs.Values.{is_bound}
use Rattle.machine.specs.State.{state_length}
use Rattle.machine.specs.Valid.{OfSheet}
use Rattle.machine.specs.Eval.{Context}
use Rattle.machine.specs.Play.{Outcome, stuck, is_initial, ran_body, alone, default_state, start_next, start_from, started, turned_down, if_passed, start_call, limit_of}
use Rattle.sheet_rules.specs.Check.{check_of}
use Rattle.machine_passed.proofs.Records.{elements-rest}
use Rattle.machine_passed.proofs.Charts.{bound-element, where_found, initial-there}
use Rattle.machine_passed.proofs.Declared.{elements-there}
use Rattle.machine_states.proofs.Default.{default_of_sheet}
use Rattle.machine_sound.specs.Gives.{Ends}
use Rattle.machine_promise.specs.Promise.{StartKept}
use Rattle.machine_promise.proofs.Bodies.{body_of, ran_ends, no_parameters, runs-alone}

module _ (s : List ℕ) (ok : check_of s ≡ Passed) where
  next_kept : (x : Context) (k : ℕ) (r : Ran) (st lo : List ℤ) (K : ℕ → List ℤ → Outcome) → Ends s x r st lo → ((k : ℕ) → OfSheet s st → StartKept s (K k st)) → StartKept s (start_next s (limit_of s) k r st K)
  unfolding start_next
  next_kept x k (Done l) st lo K h p = p _ h.0
  next_kept x k (Refused n l) st lo K h p = (inr h, λ z. absurd (let m = h.0 in omega arith))
  next_kept x k Stuck st lo K h p = h

  -- the initial bodies of n elements from e on
  from_kept : (n e k : ℕ) (st : List ℤ) → externals_of s ≤ e → e + n ≤ components_of s → OfSheet s st → StartKept s (start_from s (limit_of s) n e k st)
  unfolding start_from is_bound
  from_kept zero e k st l m o = (inl refl, λ z. o)
  from_kept (suc n) e k st l m o =
      let x = bound-element s ok e (and-true _ _ (le-leb (externals_of s) e l) (lt-ltb e (components_of s) (omega arith))) in
      let i = initial-there s ok _ x.1 x.2.chart in
      let f = where_found s is_initial x.1 i.0 i.1 in
      let none : role i.0 ≡ initial = eqb-true _ _ f.1 in
      subst (λ g. StartKept s (start_next s (limit_of s) k (ran_body s (limit_of s) e g [] st).ran (ran_body s (limit_of s) e g [] st).st (λ k st. start_from s (limit_of s) n (suc e) k st))) (sym (ap alone (body_of s ok e x.0 x.1 x.2 is_initial ∙ i.1) ∙ runs-alone s ok e x.0 x.1 x.2 i.0 f.0 (omega arith)))
      (next_kept _ k _ _ _ _ (ran_ends s ok e x.0 x.1 x.2 i.0 f.0 [] st o (no_parameters s ok e x.0 x.1 x.2 i.0 f.0 (omega arith) [])) (λ k o'. from_kept n (suc e) k _ (omega arith) (omega arith) o'))

  called : (lent : List ℤ) → length lent ≡ state_length s → start_call s (limit_of s) lent ≡ started s (limit_of s)
  unfolding start_call if_passed
  called lent h =
      ap (λ c. if_passed c lent (λ result. elim (eqb (length result) (state_length s)) [ true ↦ started s (limit_of s) | false ↦ turned_down 3 result ])) ok
      ∙ ap (λ b. elim b as (λ b. Outcome) [ true ↦ started s (limit_of s) | false ↦ turned_down 3 lent ]) (eq-eqb (length lent) (state_length s) h)

  pub start-kept : (lent : List ℤ) → length lent ≡ state_length s → StartKept s (start_call s (limit_of s) lent)
  unfolding started
  start-kept lent h =
      subst (StartKept s) (sym (called lent h ∙ ap (λ b. elim b as (λ b. Outcome) [ true ↦ start_from s (limit_of s) (elements_of s) (externals_of s) 0 (default_state s) | false ↦ stuck ]) (elements-there s ok)))
      (from_kept (elements_of s) (externals_of s) 0 (default_state s) (omega arith) (omega (arith, elements-rest s ok)) (default_of_sheet s ok))
