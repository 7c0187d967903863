-- Every event on a state of the sheet keeps it so, and is not stuck.
use Rattle.std.specs.Prelude.{Option, Some, None}
use Rattle.sheet.specs.declared.Record.{Record}
use Prim.Native.Nat.{ℕ, zero, suc, ◌+◌, ◌<◌}
use mathlib.Core.Path.{◌≡◌, refl, sym, ap, subst, ◌∙◌}
use mathlib.Core.List.{List}
use mathlib.Core.Logic.{inl, inr}
use mathlib.Core.Bool.{Bool, true, false}
use native.Mathlib.Omega.{arith}
use lib.ListN.{length}
use lib.Dec.{ltb, eqb}
use lib.IntN.{ℤ, pos, negsuc, nat_abs}
use borrow.Author.Tests.{ltb-true, ltb-false, eqb-true, le-leb, eq-eqb, not-true}
use Rattle.sheet.specs.All.{◌and◌}
use Rattle.sheet.specs.Names.{names, external, role, external_reaction, internal_reaction}
use Rattle.sheet.specs.Sheet.{count_of}
use Rattle.sheet.proofs.All.{true_false, and_first, and_second, and-true, and-false}
use Rattle.sheet_rules.specs.declared.Checked.TheVariants.{Passed}
use Rattle.machine.specs.declared.Telegram.{Telegram}
use Rattle.sheet_rules.specs.Fields.{holds, components_of, externals_of, ports_of, elements_of}
use Rattle.sheet_rules.specs.Shape.{is_reaction}
use Rattle.sheet_rules.specs.Types.{name_range, has_class, has_reaction}
use Rattle.machine.specs.Values.{is_below, is_bound, chart_of}
use Rattle.machine.specs.State.{state_length, word_of, waiting, telegram_of, without_telegram, Changed, on, off, lost, is_internal}
use Rattle.machine.specs.Valid.{data_fit, name_fits, reaction_awaits, datum_of, internal_fits, external_fits, telegram_fits, content_fits, OfSheet}
use Rattle.machine.specs.Kinds as kind
use Rattle.machine.specs.Kinds.{Kind, kind_of}
use Rattle.machine.specs.Play.{Outcome, ended, stuck, with_number, bodies_there, received, answer, reacts_on, element_body, oldest_from, oldest, goes_from, inner_of, taking, reacting, panicking, outside, delivered, deliver, corrupt, inner, sliced_from, slice, bound_word, well_formed, is_event, telegram_of_event, happens_as, happens, turned_down, if_passed, event_call, change_end, limit_of}
use Rattle.sheet_rules.specs.Check.{check_of}
use Rattle.sheet_rules.proofs.Fields.{holds-present}
use Rattle.machine_passed.proofs.Records.{externals-components}
use Rattle.machine_passed.proofs.Charts.{bound-element, element-chart, where_found, reaction_there}
use Rattle.machine_passed.proofs.Declared.{bodies-there, has_head_lem}
use Rattle.machine_states.proofs.Frame.{name_same}
use Rattle.machine_states.proofs.Parts.{below_more, same_word_lem, is_counted_lem, of_content, telegram_of_lem}
use Rattle.machine_states.proofs.Kept.{removed_kept, ChangeKept, appended-kept}
use Rattle.machine_states.proofs.Telegrams.{external-fits, internal_part}
use Rattle.machine_states.proofs.Ticks.{slice_kept}
use Rattle.machine_promise.specs.Promise.{EventKept}
use Rattle.machine_promise.proofs.Bodies.{body_of, reacting-kept, panicking-kept}

-- ---- words

-- a component that is not external is bound
pub bound_word_lem : (s : List ℕ) (z : ℤ) → is_below z (components_of s) ≡ true → is_below z (externals_of s) ≡ false → is_bound s (nat_abs z) ≡ true
unfolding is_bound is_below
bound_word_lem s (pos k) h n = and-true _ _ (le-leb (externals_of s) k (ltb-false k (externals_of s) n)) h
bound_word_lem s (negsuc k) h n = absurd (true_false h refl)

-- a word that is a number
pub number_is : (z : ℤ) (n : ℕ) (K : ℕ → Outcome) → is_below z n ≡ true → with_number z K ≡ K (nat_abs z)
unfolding with_number is_below
number_is (pos k) n K h = refl
number_is (negsuc k) n K h = absurd (true_false h refl)

-- ---- the oldest telegram

module _ (s : List ℕ) (st : List ℤ) (p : Telegram → Bool) where
  meets_from_lem : (n j : ℕ) → oldest_from s st p n j < j + n → p (telegram_of s st (oldest_from s st p n j)) ≡ true
  unfolding oldest_from
  meets_from_lem zero j h = absurd (omega arith)
  meets_from_lem (suc n) j h = go (meets_from_lem n (suc j)) (p (telegram_of s st j)) refl h
    where
      go : (oldest_from s st p n (suc j) < suc j + n → p (telegram_of s st (oldest_from s st p n (suc j))) ≡ true) → (t : Bool) → p (telegram_of s st j) ≡ t → elim t [ true ↦ j | false ↦ oldest_from s st p n (suc j) ] < j + suc n → p (telegram_of s st (elim t [ true ↦ j | false ↦ oldest_from s st p n (suc j) ])) ≡ true
      go later true q h = q
      go later false q h = later (omega arith)

  pub oldest_meets : oldest s st p < waiting st → p (telegram_of s st (oldest s st p)) ≡ true
  unfolding oldest
  oldest_meets h = meets_from_lem (waiting st) 0 (omega arith)

-- "no such telegram waits": 5
pub taking-kept : (s : List ℕ) (st : List ℤ) → OfSheet s st → (p : Telegram → Bool) (K : Telegram → List ℤ → Outcome) → ((t : Telegram) (st' : List ℤ) → telegram_fits s t ≡ true → p t ≡ true → OfSheet s st' → EventKept s st (K t st')) → EventKept s st (taking s st p K)
unfolding taking
taking-kept s st o p K h = subst (λ b. EventKept s st (elim b [ true ↦ taken (ltb (oldest s st p) (waiting st)) | false ↦ stuck ])) (sym (is_counted_lem s st o)) (go (ltb (oldest s st p) (waiting st)) refl)
  where
    taken : Bool → Outcome
    taken b = elim b [ true ↦ K (telegram_of s st (oldest s st p)) (without_telegram s st (oldest s st p)) | false ↦ ended (answer 5 0 None) st ]

    go : (b : Bool) → ltb (oldest s st p) (waiting st) ≡ b → EventKept s st (taken b)
    go true q = let l = ltb-true _ _ q in h _ _ (telegram_of_lem s st o _ l) (oldest_meets s st p l) (removed_kept s st o _ l)
    go false q = (inr (omega arith, omega arith), λ z. absurd (omega arith), λ n. refl)

module _ (s : List ℕ) (ok : check_of s ≡ Passed) where
  -- ---- the parts of a telegram that fits

  pub receiver-below : (t : Telegram) → telegram_fits s t ≡ true → is_below t.receiver (components_of s) ≡ true
  unfolding telegram_fits
  receiver-below t h = and_first _ _ (and_second _ _ h)

  pub external_part : (t : Telegram) → telegram_fits s t ≡ true → is_internal t ≡ false → external_fits s t ≡ true
  unfolding telegram_fits
  external_part t h n = rw n at (and_second _ _ (and_second _ _ h))

  -- ---- events that run no body

  change_end_lem : (old : List ℤ) (r : Changed) → ChangeKept s r → EventKept s old (change_end old r)
  unfolding change_end
  change_end_lem old (on st) h = (inl refl, λ z. h, λ n. absurd (n refl))
  change_end_lem old (off n) h = (inr (omega arith, omega arith), λ z. absurd (omega (arith, h.0)), λ k. refl)
  change_end_lem old lost h = h

  -- ---- 1 Some

  outside_kept : (st : List ℤ) → OfSheet s st → (t : Telegram) → telegram_fits s t ≡ true → EventKept s st (outside s st t)
  unfolding outside
  outside_kept st o t h = change_end_lem st _ (appended-kept s st o t h)

  -- ---- 2 Deliver

  -- the reaction for its port and name, or without one the panic body
  received-kept : (old st : List ℤ) → OfSheet s st → (t : Telegram) → is_below t.name (count_of s names) ≡ true → data_fit s (name_range s (nat_abs t.name)) (datum_of t) ≡ true → (e p : ℕ) → is_bound s e ≡ true → EventKept s old (received s (limit_of s) old t st e p (nat_abs t.name))
  unfolding received is_reaction
  received-kept old st o t below h e p bound = go (element_body s e (reacts_on p (nat_abs t.name))) refl
    where
      go : (f : Option Record) → element_body s e (reacts_on p (nat_abs t.name)) ≡ f → EventKept s old (elim f [ Some b ↦ reacting s (limit_of s) old e (Some b) t st | None ↦ elim (bodies_there s e) [ true ↦ panicking s (limit_of s) old e st | false ↦ stuck ] ])
      go (Some d) q =
          let x = bound-element s ok e bound in
          let f = where_found s _ x.1 d (sym (body_of s ok e x.0 x.1 x.2 _) ∙ q) in
          let two : role d ≡ external_reaction = eqb-true _ _ (and_first _ _ f.1) in
          reacting-kept s ok e x.0 x.1 x.2 d f.0 t (eqb-true _ _ (and_second _ _ (and_second _ _ f.1))) below h (rw two (and-true _ _ refl refl)) old st o
      go None q = let x = bound-element s ok e bound in subst (λ b. EventKept s old (elim b [ true ↦ panicking s (limit_of s) old e st | false ↦ stuck ])) (sym (bodies-there s ok e bound)) (panicking-kept s ok e x.0 x.1 x.2 old st o)

  delivered-kept : (old : List ℤ) (t : Telegram) (st : List ℤ) → telegram_fits s t ≡ true → is_internal t ≡ false → OfSheet s st → EventKept s old (delivered s (limit_of s) old t st)
  unfolding delivered external_fits name_fits
  delivered-kept old t st h n o = go (is_below t.receiver (externals_of s)) refl
    where
      named : is_below t.name (count_of s names) and has_class s (nat_abs t.name) external and data_fit s (name_range s (nat_abs t.name)) (datum_of t) ≡ true
      named = and_second _ _ (and_second _ _ (external_part t h n))

      go : (b : Bool) → is_below t.receiver (externals_of s) ≡ b → EventKept s old (elim b [ true ↦ ended (answer 0 0 (Some t)) st | false ↦ with_number t.receiver (λ e. with_number t.port (λ p. with_number t.name (λ n. received s (limit_of s) old t st e p n))) ])
      go true q = (inl refl, λ z. o, λ k. absurd (k refl))
      go false q =
          subst (EventKept s old)
          (sym (number_is t.receiver _ _ (receiver-below t h) ∙ number_is t.port _ _ (and_first _ _ (and_second _ _ (external_part t h n))) ∙ number_is t.name _ _ (and_first _ _ named)))
          (received-kept old st o t (and_first _ _ named) (and_second _ _ (and_second _ _ named)) (nat_abs t.receiver) (nat_abs t.port) (bound_word_lem s t.receiver (receiver-below t h) q))

  pub outer : (a r : ℤ) (t : Telegram) → goes_from a r t ≡ true → is_internal t ≡ false
  outer a r t h = not-true _ (and_first _ _ h)

  deliver-kept : (st : List ℤ) → OfSheet s st → (a r : ℤ) → EventKept s st (deliver s (limit_of s) st a r)
  unfolding deliver
  deliver-kept st o a r = taking-kept s st o (goes_from a r) (delivered s (limit_of s) st) (λ t st' h p o'. delivered-kept st t st' h (outer a r t p) o')

  -- ---- 3 Corrupt

  corrupt-kept : (st : List ℤ) → OfSheet s st → (a r : ℤ) → is_below r (components_of s) ≡ true → is_bound s (nat_abs r) ≡ true → EventKept s st (corrupt s (limit_of s) st a r)
  unfolding corrupt
  corrupt-kept st o a r below bound = let x = bound-element s ok (nat_abs r) bound in taking-kept s st o (goes_from a r) _ (λ t st' h p o'. subst (EventKept s st) (sym (number_is r _ _ below)) (panicking-kept s ok (nat_abs r) x.0 x.1 x.2 st st' o'))

  -- ---- 4 Inner

  inner-kept : (st : List ℤ) → OfSheet s st → (r : ℤ) → EventKept s st (inner s (limit_of s) st r)
  unfolding inner internal_fits name_fits reaction_awaits is_reaction
  inner-kept st o r = taking-kept s st o (inner_of r) _ (λ t st' h p o'.
      let same : t.receiver ≡ r = same_word_lem _ _ (and_second _ _ p) in
      let i = internal_part s t h (and_first _ _ p) in
      let bound : is_bound s (nat_abs r) ≡ true = subst (λ z. is_bound s (nat_abs z) ≡ true) same (and_first _ _ (and_second _ _ i)) in
      let named = and_second _ _ (and_second _ _ i) in
      let fits : data_fit s (name_range s (nat_abs t.name)) (datum_of t) ≡ true = and_second _ _ (and_second _ _ (and_first _ _ named)) in
      let x = bound-element s ok (nat_abs r) bound in
      let c : chart_of s (nat_abs r) ≡ Some x.1 = element-chart s (nat_abs r) x.0 x.1 x.2 in
      let awaits = subst (λ z. holds (chart_of s (nat_abs z)) (λ c. has_reaction s c (nat_abs t.name)) ≡ true) same (and_second _ _ named) in
      let d = reaction_there s x.1 (nat_abs t.name) (sym (holds-present _ x.1 _ c) ∙ awaits) in
      let f = where_found s _ x.1 d.0 d.1 in
      let three : role d.0 ≡ internal_reaction = eqb-true _ _ (and_first _ _ f.1) in
      let below = and_first _ _ (and_first _ _ named) in
      subst (EventKept s st) (sym (number_is r _ _ (subst (λ z. is_below z (components_of s) ≡ true) same (receiver-below t h)) ∙ number_is t.name _ _ below ∙ ap (λ g. reacting s (limit_of s) st (nat_abs r) g t st') (body_of s ok (nat_abs r) x.0 x.1 x.2 _ ∙ d.1)))
      (reacting-kept s ok (nat_abs r) x.0 x.1 x.2 d.0 f.0 t (eqb-true _ _ (and_second _ _ f.1)) below fits (rw three (and-true _ _ refl refl)) st st' o'))

  -- ---- 5 Slice

  slice_ends : (st : List ℤ) → OfSheet s st → EventKept s st (slice s st)
  unfolding slice
  slice_ends st o = subst (λ b. EventKept s st (change_end st (elim b [ true ↦ sliced_from s (elements_of s) (externals_of s) st | false ↦ lost ]))) (sym (has_head_lem s ok)) (change_end_lem st _ (slice_kept s ok st o))

  -- ---- a well formed event

  module _ (st ev : List ℤ) (o : OfSheet s st) where
    sent-outside : is_below (word_of ev 1) (externals_of s) and bound_word s (word_of ev 2) and is_below (word_of ev 3) (ports_of s) and name_fits s external (word_of ev 4) (λ j. word_of ev (5 + j)) ≡ true → telegram_fits s (telegram_of_event ev) ≡ true
    sent-outside h =
        let sender = and_first _ _ h in
        let receiver = and_first _ _ (and_second _ _ h) in
        external-fits s (telegram_of_event ev) (below_more _ _ _ (externals-components s ok) sender) (and_first _ _ receiver) (and-false _ _ (not-true _ (and_second _ _ receiver)))
        (and_first _ _ (and_second _ _ (and_second _ _ h)))
        (name_same s external _ _ (datum_of (telegram_of_event ev)) (λ j. word_of ev (5 + j)) refl same ∙ and_second _ _ (and_second _ _ (and_second _ _ h)))
      where
        same : (j : ℕ) → j < 4 → datum_of (telegram_of_event ev) j ≡ word_of ev (5 + j)
        same zero l = refl
        same (suc zero) l = refl
        same (suc (suc zero)) l = refl
        same (suc (suc (suc zero))) l = refl
        same (suc (suc (suc (suc j)))) l = absurd (omega arith)

    kind-kept : (k : Kind) → well_formed s ev k ≡ true → EventKept s st (happens_as s (limit_of s) st ev k)
    unfolding well_formed happens_as
    kind-kept kind.outside h = outside_kept st o (telegram_of_event ev) (sent-outside h)
    kind-kept kind.deliver h = deliver-kept st o (word_of ev 1) (word_of ev 2)
    kind-kept kind.corrupt h = let r = and_first _ _ (and_second _ _ h) in corrupt-kept st o (word_of ev 1) (word_of ev 2) (and_first _ _ r) (bound_word_lem s (word_of ev 2) (and_first _ _ r) (not-true _ (and_second _ _ r)))
    kind-kept kind.inner h = inner-kept st o (word_of ev 2)
    kind-kept kind.slice h = slice_ends st o
    kind-kept kind.no_kind h = absurd (true_false h refl)

    pub happens-kept : well_formed s ev (kind_of (word_of ev 0)) ≡ true → EventKept s st (happens s (limit_of s) st ev)
    unfolding happens
    happens-kept h = kind-kept (kind_of (word_of ev 0)) h

    -- what is left of an event's call on a passed sheet and a state of it
    called : event_call s (limit_of s) st st ev ≡ elim (is_event s ev) [ true ↦ happens s (limit_of s) st ev | false ↦ turned_down 4 st ]
    unfolding event_call if_passed
    called =
        let whole : eqb (length st) (state_length s) ≡ true = eq-eqb _ _ o.whole in
        ap (λ c. if_passed c st (λ result. elim (eqb (length st) (state_length s) and eqb (length result) (state_length s)) [ true ↦ elim (content_fits s st) [ true ↦ elim (is_event s ev) [ true ↦ happens s (limit_of s) st ev | false ↦ turned_down 4 result ] | false ↦ turned_down 3 result ] | false ↦ turned_down 3 result ])) ok
        ∙ ap (λ b. elim b as (λ b. Outcome) [ true ↦ elim (content_fits s st) as (λ b. Outcome) [ true ↦ elim (is_event s ev) [ true ↦ happens s (limit_of s) st ev | false ↦ turned_down 4 st ] | false ↦ turned_down 3 st ] | false ↦ turned_down 3 st ]) (and-true _ _ whole whole)
        ∙ ap (λ b. elim b as (λ b. Outcome) [ true ↦ elim (is_event s ev) [ true ↦ happens s (limit_of s) st ev | false ↦ turned_down 4 st ] | false ↦ turned_down 3 st ]) (of_content s st o)

    -- malformed ones are 4, and the result state is untouched
    pub event-kept : EventKept s st (event_call s (limit_of s) st st ev)
    unfolding is_event
    event-kept = subst (EventKept s st) (sym called) (go (is_event s ev) refl)
      where
        go : (b : Bool) → is_event s ev ≡ b → EventKept s st (elim b [ true ↦ happens s (limit_of s) st ev | false ↦ turned_down 4 st ])
        go true q = happens-kept (and_second _ _ q)
        go false q = (inr (omega arith, omega arith), λ z. absurd (omega arith), λ n. refl)
