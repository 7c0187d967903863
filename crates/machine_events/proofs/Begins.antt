-- Start runs the initial bodies one after another.
use Rattle.std.specs.Prelude.{None}
use Prim.Native.Nat.{ℕ, suc, ◌+◌, ◌-◌, ◌<◌, ◌≤◌}
use mathlib.Core.Path.{◌≡◌, sym, ap, subst, ◌∙◌}
use mathlib.Core.List.{List, []}
use mathlib.Core.Bool.{true, false}
use native.Mathlib.Omega.{arith}
use lib.ListN.{replicate}
use lib.IntN.{ℤ, pos}
use borrow.Author.Tests.{eqb-true, lt-ltb, le-leb}
use Rattle.sheet.specs.Names.{role, initial, root}
use Rattle.sheet.proofs.All.{and-true}
use Rattle.sheet_rules.specs.declared.Checked.TheVariants.{Passed}
use Rattle.machine.specs.declared.Answer.{Answer}
use Rattle.machine.specs.declared.Ran.{Ran}
use Rattle.machine.specs.declared.Ran.TheVariants.{Done, Refused, Stuck}
use Rattle.sheet_rules.specs.Fields.{components_of, externals_of, elements_of}
use Rattle.machine.specs.Values.{is_bound}
use Rattle.machine.specs.State.{state_length}
use Rattle.machine.specs.Valid.{OfSheet}
use Rattle.machine.specs.Eval.{Context}
use Rattle.machine.specs.Run.{World, locals_of}
use Rattle.machine.specs.Play.{Outcome, ended, stuck, answer, limit_of, is_initial, element_body, alone, ran_body, start_next, start_from, started, default_state}
use Rattle.sheet_rules.specs.Check.{check_of}
use Rattle.machine_equations.proofs.Left.{RanWithin, run-left}
use Rattle.machine_passed.proofs.Records.{elements-rest, components_limit}
use Rattle.machine_passed.proofs.Charts.{bound-element, where_found, initial-there}
use Rattle.machine_passed.proofs.Declared.{elements-there}
use Rattle.machine_sound.specs.Gives.{Ends}
use Rattle.machine_promise.proofs.Bodies.{body_of, ran_is, ran_ends, no_parameters, runs-alone}

pub begins : (s : List ℕ) → check_of s ≡ Passed → (n e : ℕ) (st : List ℤ) → n ≡ elements_of s → e ≡ externals_of s → st ≡ default_state s → started s (limit_of s) ≡ start_from s (limit_of s) n e 0 st
unfolding started
begins s ok n e st p q r = ap (λ b. elim b as (λ b. Outcome) [ true ↦ start_from s (limit_of s) (elements_of s) (externals_of s) 0 (default_state s) | false ↦ stuck ]) (elements-there s ok) ∙ ap (λ n. start_from s (limit_of s) n (externals_of s) 0 (default_state s)) (sym p) ∙ ap (λ e. start_from s (limit_of s) n e 0 (default_state s)) (sym q) ∙ ap (start_from s (limit_of s) n e 0) (sym r)

pub ends : (s : List ℕ) (n e k : ℕ) (st : List ℤ) (a : Answer) → n ≡ 0 → a ≡ answer 0 k None → ended a st ≡ start_from s (limit_of s) n e k st
unfolding start_from
ends s n e k st a z q = ap (λ a. ended a st) q ∙ ap (λ n. start_from s (limit_of s) n e k st) (sym z)

module _ (s : List ℕ) where
  abbrev first_run : ℕ → List ℤ → World
  first_run e st = ran_body s (limit_of s) e (alone (element_body s e is_initial)) [] st

  one : (n e k : ℕ) (st : List ℤ) (r : Ran) → (first_run e st).ran ≡ r → start_from s (limit_of s) (suc n) e k st ≡ start_next s (limit_of s) k r (first_run e st).st (λ k st. start_from s (limit_of s) n (suc e) k st)
  unfolding start_from
  one n e k st r h = ap (λ r. start_next s (limit_of s) k r (first_run e st).st (λ k st. start_from s (limit_of s) n (suc e) k st)) h

  one_done : (n e k l : ℕ) (st : List ℤ) → (first_run e st).ran ≡ Done l → start_from s (limit_of s) (suc n) e k st ≡ start_from s (limit_of s) n (suc e) (k + (limit_of s - l)) (first_run e st).st
  unfolding start_next
  one_done n e k l st h = one n e k st (Done l) h

  one-refused : (n e k x l : ℕ) (st : List ℤ) → (first_run e st).ran ≡ Refused x l → start_from s (limit_of s) (suc n) e k st ≡ ended (answer x (k + (limit_of s - l)) None) (replicate (state_length s) (pos 0))
  unfolding start_next
  one-refused n e k x l st h = one n e k st (Refused x l) h

module _ (s : List ℕ) (ok : check_of s ≡ Passed) where
  -- an initial body on a state of the sheet
  initial_well : (e : ℕ) → is_bound s e ≡ true → (st : List ℤ) → OfSheet s st → ((x : Context) × Ends s x (first_run s e st).ran (first_run s e st).st (first_run s e st).lo) × RanWithin (limit_of s) (first_run s e st).ran
  initial_well e h st o =
      let x = bound-element s ok e h in
      let i = initial-there s ok _ x.1 x.2.chart in
      let f = where_found s is_initial x.1 i.0 i.1 in
      let none : role i.0 ≡ initial = eqb-true _ _ f.1 in
      subst (λ g. ((y : Context) × Ends s y (ran_body s (limit_of s) e g [] st).ran (ran_body s (limit_of s) e g [] st).st (ran_body s (limit_of s) e g [] st).lo) × RanWithin (limit_of s) (ran_body s (limit_of s) e g [] st).ran) (sym (ap alone (body_of s ok e x.0 x.1 x.2 is_initial ∙ i.1) ∙ runs-alone s ok e x.0 x.1 x.2 i.0 f.0 (omega arith))) (
        (_, ran_ends s ok e x.0 x.1 x.2 i.0 f.0 [] st o (no_parameters s ok e x.0 x.1 x.2 i.0 f.0 (omega arith) [])),
        subst (λ (w : World). RanWithin (limit_of s) w.ran) (sym (ran_is s ok e x.0 x.1 x.2 i.0 f.0 [] st)) (run-left s 0 _ (root i.0) (limit_of s) st (locals_of s i.0 [])),
      )

  -- the body of element number i among those bound
  module _ (first count most i : ℕ) (p : first ≡ externals_of s) (q : count ≡ elements_of s) (m : most ≡ limit_of s) (l : i < count) where
    pub few : first + count ≤ 64
    few = omega (arith, elements-rest s ok, components_limit s ok)

    pub here_bound : is_bound s (first + i) ≡ true
    unfolding is_bound
    here_bound = and-true _ _ (le-leb (externals_of s) (first + i) (omega arith)) (lt-ltb (first + i) (components_of s) (omega (arith, elements-rest s ok)))

    module _ (st : List ℤ) (o : OfSheet s st) (r : Ran) (st' : List ℤ) (a : r ≡ (first_run s (first + i) st).ran) (b : st' ≡ (first_run s (first + i) st).st) where
      context : Context
      context = (initial_well (first + i) here_bound st o).0.0

      ended_well : Ends s context r st' (first_run s (first + i) st).lo
      unfolding context
      ended_well = subst (λ r. Ends s context r st' (first_run s (first + i) st).lo) (sym a) (subst (λ st'. Ends s context (first_run s (first + i) st).ran st' (first_run s (first + i) st).lo) (sym b) (initial_well (first + i) here_bound st o).0.1)

      left : RanWithin most r
      left = subst (λ n. RanWithin n r) (sym m) (subst (RanWithin (limit_of s)) (sym a) (initial_well (first + i) here_bound st o).1)

      pub not_stuck : r ≡ Stuck → ⊥
      not_stuck h = subst (λ r. Ends s context r st' (first_run s (first + i) st).lo) h ended_well

      pub done_left : (x : ℕ) → r ≡ Done x → x < most
      done_left x h = subst (RanWithin most) h left

      pub done_kept_lem : (x : ℕ) → r ≡ Done x → OfSheet s st'
      done_kept_lem x h = (subst (λ r. Ends s context r st' (first_run s (first + i) st).lo) h ended_well).0

      pub refused-left : (k x : ℕ) → r ≡ Refused k x → x ≤ most
      refused-left k x h = subst (RanWithin most) h left

      module _ (steps : ℕ) (so_far : started s (limit_of s) ≡ start_from s (limit_of s) (count - i) (first + i) steps st) where
        next : count - i ≡ suc (count - (i + 1))
        next = omega arith

        further : suc (first + i) ≡ first + (i + 1)
        further = omega arith

        pub done_next : (x : ℕ) → r ≡ Done x → started s (limit_of s) ≡ start_from s (limit_of s) (count - (i + 1)) (first + (i + 1)) (steps + (most - x)) st'
        done_next x h =
            so_far
            ∙ ap (λ n. start_from s (limit_of s) n (first + i) steps st) next
            ∙ one_done s (count - (i + 1)) (first + i) steps x st (sym a ∙ h)
            ∙ ap (λ e. start_from s (limit_of s) (count - (i + 1)) e (steps + (limit_of s - x)) (first_run s (first + i) st).st) further
            ∙ ap (λ n. start_from s (limit_of s) (count - (i + 1)) (first + (i + 1)) (steps + (n - x)) (first_run s (first + i) st).st) (sym m)
            ∙ ap (start_from s (limit_of s) (count - (i + 1)) (first + (i + 1)) (steps + (most - x))) (sym b)

        -- "after 6 to 10 its state is all zeros"
        pub refused_ends : (k x : ℕ) → r ≡ Refused k x → (n : ℕ) (zeros : List ℤ) → zeros ≡ replicate n (pos 0) → n ≡ state_length s → (given : Answer) → given ≡ answer k (steps + (most - x)) None → ended given zeros ≡ started s (limit_of s)
        refused_ends k x h n zeros z w given g =
            ap (λ g. ended g zeros) g
            ∙ ap (ended (answer k (steps + (most - x)) None)) (z ∙ ap (λ n. replicate n (pos 0)) w)
            ∙ ap (λ n. ended (answer k (steps + (n - x)) None) (replicate (state_length s) (pos 0))) m
            ∙ sym (so_far ∙ ap (λ n. start_from s (limit_of s) n (first + i) steps st) next ∙ one-refused s (count - (i + 1)) (first + i) steps k x st (sym a ∙ h))
