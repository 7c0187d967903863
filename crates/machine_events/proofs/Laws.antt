-- The kinds of event, as an engine plays them.
use Rattle.std.specs.Prelude.{Some, None}
use Prim.Native.Nat.{ℕ, zero, suc, ◌<◌, ◌≤◌}
use mathlib.Core.Path.{◌≡◌, refl, ap, ◌∙◌, fun_ext}
use mathlib.Core.List.{List, [], ◌∷◌}
use mathlib.Core.Bool.{Bool, true, false}
use lib.ListN.{length}
use lib.Dec.{ltb, eqb}
use lib.IntN.{ℤ, pos, nat_abs}
use borrow.Author.Tests.{lt-ltb, le-ltb, eq-eqb, ne_eqb}
use Rattle.sheet.specs.declared.Record.{Record}
use Rattle.sheet.specs.All.{◌and◌}
use Rattle.sheet.specs.Names.{body_parameters, root}
use Rattle.sheet.proofs.All.{and_first, and_second, and-true, false-and, and-false}
use Rattle.sheet_rules.specs.declared.Checked.TheVariants.{Passed, Shape, Static}
use Rattle.machine.specs.declared.Telegram.{Telegram}
use Rattle.sheet_rules.specs.Fields.{holds, externals_of, elements_of}
use Rattle.machine.specs.Values.{is_below, binding_at, chart_of}
use Rattle.machine.specs.State.{state_length, waiting, Changed, lost, counted, telegram_of, without_telegram}
use Rattle.machine.specs.Valid.{name_fits, external_fits, telegram_fits, content_fits}
use Rattle.machine.specs.Run.{with_record, provided, run_of, datum, local_at, list_from, locals_of, locals_there}
use Rattle.machine.specs.Play.{Outcome, ended, answer, limit_of, body_where, has_panic, is_initial, reacts_on, ran_body, element_body, alone, event_end}
use Rattle.machine.specs.Play.{body_event, oldest, taking, brought, reacting, panicking, bodies_there, received}
use Rattle.machine.specs.Play.{delivered, change_end, is_event, sliced_from, slice}
use Rattle.machine.specs.Play.{happens, turned_down, if_passed, started, start_call, event_call}
use Rattle.sheet_rules.specs.Check.{check_of}
use Rattle.machine_passed.proofs.Declared.{has_head_lem}
use Rattle.machine_promise.proofs.Events.{number_is}

-- ---- the oldest telegram that meets a test

module _ (s : List ℕ) (st : List ℤ) (p : Telegram → Bool) (K : Telegram → List ℤ → Outcome) (c : counted st ≡ true) where
  pub taking-none : waiting st ≤ oldest s st p → taking s st p K ≡ ended (answer 5 0 None) st
  unfolding taking
  taking-none h = rw (taking, c, le-ltb (oldest s st p) (waiting st) h) refl

  pub taking-one : oldest s st p < waiting st → taking s st p K ≡ K (telegram_of s st (oldest s st p)) (without_telegram s st (oldest s st p))
  unfolding taking
  taking-one h = rw (taking, c, lt-ltb (oldest s st p) (waiting st) h) refl

-- ---- 2 Deliver

module _ (s : List ℕ) (old : List ℤ) (t : Telegram) (st : List ℤ) where
  pub handed_outside : is_below t.receiver (externals_of s) ≡ true → delivered s (limit_of s) old t st ≡ ended (answer 0 0 (Some t)) st
  unfolding delivered
  handed_outside h = rw (delivered, h) refl

  -- a telegram that fits, with both ends not external
  module _ (fits : telegram_fits s t ≡ true) (outer : external_fits s t ≡ true) (bound : is_below t.receiver (externals_of s) ≡ false) where
    delivered-bound : delivered s (limit_of s) old t st ≡ received s (limit_of s) old t st (nat_abs t.receiver) (nat_abs t.port) (nat_abs t.name)
    unfolding delivered telegram_fits external_fits name_fits
    delivered-bound =
        rw (delivered, bound)
        (number_is t.receiver _ _ (and_first _ _ (and_second _ _ fits)) ∙ number_is t.port _ _ (and_first _ _ (and_second _ _ outer)) ∙ number_is t.name _ _ (and_first _ _ (and_second _ _ (and_second _ _ outer))))

    pub delivered_reaction : (b : Record) → element_body s (nat_abs t.receiver) (reacts_on (nat_abs t.port) (nat_abs t.name)) ≡ Some b → delivered s (limit_of s) old t st ≡ reacting s (limit_of s) old (nat_abs t.receiver) (Some b) t st
    unfolding received
    delivered_reaction b h = delivered-bound ∙ rw (received, h) refl

    pub delivered-panic : bodies_there s (nat_abs t.receiver) ≡ true → element_body s (nat_abs t.receiver) (reacts_on (nat_abs t.port) (nat_abs t.name)) ≡ None → delivered s (limit_of s) old t st ≡ panicking s (limit_of s) old (nat_abs t.receiver) st
    unfolding received
    delivered-panic k h = delivered-bound ∙ rw (received, h, k) refl

-- ---- bodies

pub reacting_is : (s : List ℕ) (old : List ℤ) (e : ℕ) (b : Record) (t : Telegram) (st : List ℤ) → brought s t b ≡ true → reacting s (limit_of s) old e (Some b) t st ≡ body_event s (limit_of s) old e (Some b) (t.d0 ∷ t.d1 ∷ t.d2 ∷ t.d3 ∷ []) st
unfolding reacting holds
reacting_is s old e b t st h = rw (reacting, h) refl

-- a body of the element's chart
pub element-body : (s : List ℕ) (e : ℕ) (c : Record) (p : Record → Bool) → chart_of s e ≡ Some c → element_body s e p ≡ body_where s c p
unfolding element_body
element-body s e c p h = rw (element_body, h) refl

-- no data are as good as four zeros
none-datum : (i : ℕ) → datum [] i ≡ datum (pos 0 ∷ pos 0 ∷ pos 0 ∷ pos 0 ∷ []) i
none-datum zero = refl
none-datum (suc zero) = refl
none-datum (suc (suc zero)) = refl
none-datum (suc (suc (suc zero))) = refl
none-datum (suc (suc (suc (suc i)))) = refl

no_data_lem : (s : List ℕ) (b : Record) → locals_of s b [] ≡ locals_of s b (pos 0 ∷ pos 0 ∷ pos 0 ∷ pos 0 ∷ [])
unfolding locals_of local_at
no_data_lem s b = ap (list_from 16 0) (fun_ext (λ i. each i (ltb i (body_parameters b).count) _))
  where
    each : (i : ℕ) (t : Bool) (z : ℤ) → ◌≡◌ {A = ℤ} (elim t [ true ↦ datum [] i | false ↦ z ]) (elim t [ true ↦ datum (pos 0 ∷ pos 0 ∷ pos 0 ∷ pos 0 ∷ []) i | false ↦ z ])
    each i true z = none-datum i
    each i false z = refl

ran_without : (s : List ℕ) (e : ℕ) (b : Record) (st : List ℤ) → ran_body s (limit_of s) e (Some b) [] st ≡ ran_body s (limit_of s) e (Some b) (pos 0 ∷ pos 0 ∷ pos 0 ∷ pos 0 ∷ []) st
unfolding ran_body with_record
ran_without s e b st = ap (λ lo. with_record (chart_of s e) st [] (λ c. provided (locals_there s b) st [] (run_of s 0 (record { element = e; chart = c; binding = binding_at s e; body = b }) (root b) (limit_of s) st lo))) (no_data_lem s b)

-- the panic body runs without data
pub panicking_is : (s : List ℕ) (old : List ℤ) (e : ℕ) (st : List ℤ) (b : Record) → alone (element_body s e has_panic) ≡ Some b → panicking s (limit_of s) old e st ≡ body_event s (limit_of s) old e (Some b) (pos 0 ∷ pos 0 ∷ pos 0 ∷ pos 0 ∷ []) st
unfolding panicking
panicking_is s old e st b h = ap (λ f. body_event s (limit_of s) old e f [] st) h ∙ ap (λ w. event_end (limit_of s) old w.ran w.st) (ran_without s e b st)

-- so does an initial body
pub initial-ran : (s : List ℕ) (e : ℕ) (st : List ℤ) (b : Record) → alone (element_body s e is_initial) ≡ Some b → ran_body s (limit_of s) e (alone (element_body s e is_initial)) [] st ≡ ran_body s (limit_of s) e (Some b) (pos 0 ∷ pos 0 ∷ pos 0 ∷ pos 0 ∷ []) st
initial-ran s e st b h = ap (λ f. ran_body s (limit_of s) e f [] st) h ∙ ran_without s e b st

-- ---- the calls

module _ (s : List ℕ) (result : List ℤ) where
  pub start-shape : check_of s ≡ Shape → start_call s (limit_of s) result ≡ turned_down 1 result
  unfolding start_call if_passed
  start-shape h = ap (λ c. if_passed c result (λ result. elim (eqb (length result) (state_length s)) [ true ↦ started s (limit_of s) | false ↦ turned_down 3 result ])) h

  pub start-static : check_of s ≡ Static → start_call s (limit_of s) result ≡ turned_down 2 result
  unfolding start_call if_passed
  start-static h = ap (λ c. if_passed c result (λ result. elim (eqb (length result) (state_length s)) [ true ↦ started s (limit_of s) | false ↦ turned_down 3 result ])) h

  module _ (ok : check_of s ≡ Passed) where
    start-passed : start_call s (limit_of s) result ≡ elim (eqb (length result) (state_length s)) [ true ↦ started s (limit_of s) | false ↦ turned_down 3 result ]
    unfolding start_call if_passed
    start-passed = ap (λ c. if_passed c result (λ result. elim (eqb (length result) (state_length s)) [ true ↦ started s (limit_of s) | false ↦ turned_down 3 result ])) ok

    pub start_length : (length result ≡ state_length s → ⊥) → start_call s (limit_of s) result ≡ turned_down 3 result
    start_length h = start-passed ∙ rw (ne_eqb (length result) (state_length s) h) refl

    pub start_is : length result ≡ state_length s → start_call s (limit_of s) result ≡ started s (limit_of s)
    start_is h = start-passed ∙ rw (eq-eqb (length result) (state_length s) h) refl

module _ (s : List ℕ) (old result ev : List ℤ) where
  abbrev on_passed : List ℤ → Outcome
  on_passed result =
      elim (eqb (length old) (state_length s) and eqb (length result) (state_length s)) [
        | true ↦ elim (content_fits s old) [ true ↦ elim (is_event s ev) [ true ↦ happens s (limit_of s) old ev | false ↦ turned_down 4 result ] | false ↦ turned_down 3 result ]
        | false ↦ turned_down 3 result
      ]

  pub event-shape : check_of s ≡ Shape → event_call s (limit_of s) old result ev ≡ turned_down 1 result
  unfolding event_call if_passed
  event-shape h = ap (λ c. if_passed c result on_passed) h

  pub event-static : check_of s ≡ Static → event_call s (limit_of s) old result ev ≡ turned_down 2 result
  unfolding event_call if_passed
  event-static h = ap (λ c. if_passed c result on_passed) h

  module _ (ok : check_of s ≡ Passed) where
    passed : event_call s (limit_of s) old result ev ≡ on_passed result
    unfolding event_call if_passed
    passed = ap (λ c. if_passed c result on_passed) ok

    pub event-old_length : (length old ≡ state_length s → ⊥) → event_call s (limit_of s) old result ev ≡ turned_down 3 result
    event-old_length h = passed ∙ rw (on_passed, false-and _ (eqb (length result) (state_length s)) (ne_eqb (length old) (state_length s) h)) refl

    pub event_result_length : (length result ≡ state_length s → ⊥) → event_call s (limit_of s) old result ev ≡ turned_down 3 result
    event_result_length h = passed ∙ rw (on_passed, and-false (eqb (length old) (state_length s)) _ (ne_eqb (length result) (state_length s) h)) refl

    module _ (h : length old ≡ state_length s) (k : length result ≡ state_length s) where
      whole : event_call s (limit_of s) old result ev ≡ elim (content_fits s old) [ true ↦ elim (is_event s ev) [ true ↦ happens s (limit_of s) old ev | false ↦ turned_down 4 result ] | false ↦ turned_down 3 result ]
      whole = passed ∙ rw (on_passed, and-true _ _ (eq-eqb (length old) (state_length s) h) (eq-eqb (length result) (state_length s) k)) refl

      pub event_content : content_fits s old ≡ false → event_call s (limit_of s) old result ev ≡ turned_down 3 result
      event_content c = whole ∙ rw c refl

      pub event_malformed : content_fits s old ≡ true → is_event s ev ≡ false → event_call s (limit_of s) old result ev ≡ turned_down 4 result
      event_malformed c e = whole ∙ rw (c, e) refl

-- ---- 5 Slice

-- a slice goes over the bound elements
pub slice_is : (s : List ℕ) → check_of s ≡ Passed → (st : List ℤ) → slice s st ≡ change_end st (sliced_from s (elements_of s) (externals_of s) st)
unfolding slice
slice_is s ok st = ap (λ b. change_end st (elim b as (λ b. Changed) [ true ↦ sliced_from s (elements_of s) (externals_of s) st | false ↦ lost ])) (has_head_lem s ok)
