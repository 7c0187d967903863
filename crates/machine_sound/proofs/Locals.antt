-- The variables of a body: "Each run of a body has fresh default locals".
use Prim.Native.Nat.{ℕ, zero, suc, ◌+◌, ◌<◌, ◌≤◌}
use mathlib.Core.Path.{◌≡◌, refl, ap, ◌∙◌}
use mathlib.Core.List.{List}
use mathlib.Core.Bool.{true, false}
use native.Mathlib.Omega.{arith}
use native.Mathlib.Decide.{dec_lt, ℕ_discrete}
use lib.ListN.{length, set, length-set}
use lib.IntN.{ℤ}
use borrow.Author.Tests.{leb-true, lt-ltb, le-ltb, not-true}
use Rattle.sheet.specs.Names.{body_parameters, body_locals, body_variable, is_clock}
use Rattle.sheet.proofs.All.{and_first, and_second, all-at}
use Rattle.sheet_rules.specs.declared.Checked.TheVariants.{Passed}
use Rattle.sheet_rules.specs.Fields.{type_at}
use Rattle.sheet_rules.specs.Shape.{body_shape}
use Rattle.sheet_rules.specs.Types.{variable_at}
use Rattle.sheet_rules.specs.Static.{plain_data, body_static}
use Rattle.machine.specs.Values.{in_type}
use Rattle.machine.specs.State.{word_of}
use Rattle.machine.specs.Eval.{Context}
use Rattle.machine.specs.Run.{datum, local_at, list_from, locals_of}
use Rattle.sheet_rules.specs.Check.{check_of}
use Rattle.machine_passed.specs.Places.{Placed, Locals}
use Rattle.machine_passed.proofs.Records.{declared-exists, body-shape}
use Rattle.machine_passed.proofs.Charts.{body-static}
use Rattle.machine_passed.proofs.Declared.{default_in_lem}
use Rattle.machine_states.proofs.Words.{word_set, word_set_other}

list_length : (n i : ℕ) (f : ℕ → ℤ) → length (list_from n i f) ≡ n
unfolding list_from
list_length zero i f = refl
list_length (suc n) i f = ap suc (list_length n (suc i) f)

list_word : (n i : ℕ) (f : ℕ → ℤ) (k : ℕ) → k < n → word_of (list_from n i f) k ≡ f (i + k)
unfolding list_from word_of
list_word zero i f k h = absurd (omega arith)
list_word (suc n) i f zero h = let e : i + 0 ≡ i = omega arith in rw e refl
list_word (suc n) i f (suc k) h = let e : i + suc k ≡ suc i + k = omega arith in rw e (list_word n (suc i) f k (omega arith))

module _ (s : List ℕ) (ok : check_of s ≡ Passed) (x : Context) (placed : Placed s x) where
  pub few : (body_parameters x.body).count + (body_locals x.body).count ≤ 16
  unfolding body_shape
  few = leb-true _ _ (and_first _ _ (and_second _ _ (and_second _ _ (and_second _ _ (and_second _ _ (and_second _ _ (body-shape s ok _ _ placed.body.there)))))))

  no_clock_lem : (j : ℕ) → j < (body_locals x.body).count → is_clock (type_at s ((body_locals x.body).first + j)) ≡ false
  unfolding body_static plain_data
  no_clock_lem j l = not-true _ (and_first _ _ (all-at _ _ (and_first _ _ (and_second _ _ (body-static s ok _ _ placed.element.chart x.body placed.body))) j l))

  -- parameters of their types make the body's variables so
  module _ (zs : List ℤ) (parameters : (i : ℕ) → i < (body_parameters x.body).count → in_type s (type_at s ((body_parameters x.body).first + i)) (datum zs i) ≡ true) where
    each : (i : ℕ) → i < (body_parameters x.body).count + (body_locals x.body).count → in_type s (type_at s (variable_at x.chart x.body body_variable i)) (local_at s x.body zs i) ≡ true
    unfolding local_at variable_at
    each i h = elim (dec_lt i (body_parameters x.body).count) [
      | yes l ↦ (let t = lt-ltb i (body_parameters x.body).count l in rw (local_at, variable_at, t) (parameters i l))
      | no l ↦ (
          let t = le-ltb i (body_parameters x.body).count (omega arith) in
          let u = lt-ltb i ((body_parameters x.body).count + (body_locals x.body).count) h in
          rw (local_at, variable_at, t, u) (default_in_lem s ok _ (no_clock_lem _ (omega arith)) (declared-exists s ok _)))
    ]

    pub fresh_locals : Locals s x (locals_of s x.body zs)
    unfolding locals_of
    fresh_locals = record {
      sixteen = list_length 16 0 _;
      holds = λ i h. (let e : 0 + i ≡ i = omega arith in let w = list_word 16 0 (local_at s x.body zs) i (omega (arith, few)) in ap (in_type s (type_at s (variable_at x.chart x.body body_variable i))) (w ∙ ap (local_at s x.body zs) e) ∙ each i h);
    }

  -- a value assigned to one of them
  pub local_set : (lo : List ℤ) → Locals s x lo → (n : ℕ) (z : ℤ) → n < (body_parameters x.body).count + (body_locals x.body).count → in_type s (type_at s (variable_at x.chart x.body body_variable n)) z ≡ true → Locals s x (set lo n z)
  local_set lo l n z h t = record {
    sixteen = length-set lo n z ∙ l.sixteen;
    holds = λ i q. elim (ℕ_discrete i n) [
      | yes e ↦ (rw e (ap (in_type s (type_at s (variable_at x.chart x.body body_variable n))) (word_set lo n z (omega (arith, few, l.sixteen))) ∙ t))
      | no e ↦ ap (in_type s (type_at s (variable_at x.chart x.body body_variable i))) (word_set_other lo n i z e) ∙ l.holds i q
    ];
  }
