-- The telegram that an event takes, and what then is done with it.
use Rattle.std.specs.Prelude.{None}
use Prim.Native.Nat.{ℕ, ◌≤◌}
use mathlib.Core.Path.{◌≡◌, refl, sym, ap, subst, ◌∙◌}
use mathlib.Core.List.{List}
use mathlib.Core.Bool.{Bool, true, false, not}
use native.Mathlib.Omega.{arith}
use lib.Dec.{ltb}
use lib.IntN.{ℤ, nat_abs}
use borrow.Author.Tests.{lt-ltb, not-true}
use Rattle.sheet.specs.All.{◌and◌}
use Rattle.sheet.specs.Names.{names}
use Rattle.sheet.specs.Sheet.{count_of}
use Rattle.sheet.proofs.All.{and_first, and_second, and-true}
use Rattle.machine.specs.declared.Telegram.{Telegram}
use Rattle.sheet_rules.specs.declared.Checked.TheVariants.{Passed}
use Rattle.sheet_rules.specs.Fields.{components_of, externals_of}
use Rattle.sheet_rules.specs.Types.{reacts_to}
use Rattle.sheet_rules.specs.Check.{check_of}
use Rattle.machine.specs.Values.{is_below, is_bound}
use Rattle.machine.specs.State.{waiting, telegram_of, without_telegram, is_internal}
use Rattle.machine.specs.Valid.{name_fits, internal_fits, telegram_fits, OfSheet}
use Rattle.machine.specs.Play.{Outcome, ended, answer, element_body, goes_from, inner_of, oldest, taking, reacting, panicking, with_number, delivered, deliver, corrupt, inner, bound_word, limit_of}
use Rattle.machine_states.proofs.Parts.{same_word_lem, is_counted_lem, telegram_of_lem}
use Rattle.machine_states.proofs.Telegrams.{internal_part}
use Rattle.machine_states.proofs.Kept.{removed_kept}
use Rattle.machine_promise.proofs.Events.{bound_word_lem, oldest_meets, number_is, receiver-below}
use Rattle.machine_events.specs.Takes.{Takes}
use Rattle.machine_events.proofs.Laws.{taking-none, taking-one, handed_outside}

-- ---- any telegram that waits

module _ {s : List ℕ} {st : List ℤ} (o : OfSheet s st) {j : ℕ} {t : Telegram} {st' : List ℤ} (k : Takes s st j t st') where
  pub taken_fits : telegram_fits s t ≡ true
  taken_fits = subst (λ t. telegram_fits s t ≡ true) (sym k.telegram) (telegram_of_lem s st o j k.waits)

  pub taken_kept : OfSheet s st'
  taken_kept = subst (OfSheet s) (sym k.left) (removed_kept s st o j k.waits)

-- ---- the oldest that meets a test

module _ {s : List ℕ} {st : List ℤ} (o : OfSheet s st) {j : ℕ} (p : Telegram → Bool) (at : j ≡ oldest s st p) where
  -- "no such telegram waits"
  pub took_none : (K : Telegram → List ℤ → Outcome) → waiting st ≤ j → taking s st p K ≡ ended (answer 5 0 None) st
  took_none K l = taking-none s st p K (is_counted_lem s st o) (omega arith)

  module _ {t : Telegram} {st' : List ℤ} (k : Takes s st j t st') where
    meets : p t ≡ true
    meets = subst (λ t. p t ≡ true) (ap (telegram_of s st) (sym at) ∙ sym k.telegram) (oldest_meets s st p (let l = k.waits in omega arith))

    took : (K : Telegram → List ℤ → Outcome) → taking s st p K ≡ K t st'
    took K = taking-one s st p K (is_counted_lem s st o) (let l = k.waits in omega arith) ∙ ap (λ j. K (telegram_of s st j) (without_telegram s st j)) (sym at) ∙ ap (λ t. K t (without_telegram s st j)) (sym k.telegram) ∙ ap (K t) (sym k.left)

    waits : ltb (oldest s st p) (waiting st) ≡ true
    waits = lt-ltb (oldest s st p) (waiting st) (let l = k.waits in omega arith)

-- ---- an external telegram from a to r: Deliver and Corrupt. `old` is a copy of the state if there may be work to undo

module _ {s : List ℕ} (ok : check_of s ≡ Passed) {st : List ℤ} (o : OfSheet s st) {j : ℕ} (a r : ℤ) (at : j ≡ oldest s st (goes_from a r)) {t : Telegram} {st' : List ℤ} (k : Takes s st j t st') where
  outer : goes_from a r t ≡ true
  outer = meets o (goes_from a r) at k

  pub taken_outer : is_internal t ≡ false
  taken_outer = not-true _ (and_first _ _ outer)

  to : t.receiver ≡ r
  to = same_word_lem _ _ (and_second _ _ (and_second _ _ outer))

  pub corrupt-bound : bound_word s r ≡ true → (e : ℕ) → e ≡ nat_abs t.receiver → is_bound s e ≡ true
  corrupt-bound b e i =
      ap (is_bound s) (i ∙ ap nat_abs to) ∙ bound_word_lem s r (and_first (is_below r (components_of s)) (not (is_below r (externals_of s))) b) (not-true _ (and_second (is_below r (components_of s)) (not (is_below r (externals_of s))) b))

  pub delivers : (old : List ℤ) → (ltb (oldest s st (goes_from a r)) (waiting st) and not (is_below r (externals_of s)) ≡ true → old ≡ st) → (x : Outcome) → x ≡ delivered s (limit_of s) old t st' → x ≡ deliver s (limit_of s) st a r
  unfolding deliver
  delivers old undo x g = g ∙ go (is_below r (externals_of s)) refl ∙ sym (took o (goes_from a r) at k (delivered s (limit_of s) st))
    where
      below : (b : Bool) → is_below r (externals_of s) ≡ b → is_below t.receiver (externals_of s) ≡ b
      below b q = ap (λ z. is_below z (externals_of s)) to ∙ q

      go : (b : Bool) → is_below r (externals_of s) ≡ b → delivered s (limit_of s) old t st' ≡ delivered s (limit_of s) st t st'
      go true q = handed_outside s old t st' (below true q) ∙ sym (handed_outside s st t st' (below true q))
      go false q = ap (λ o. delivered s (limit_of s) o t st') (undo (and-true _ _ (waits o (goes_from a r) at k) (ap not q)))

  pub corrupts : (old : List ℤ) → (ltb (oldest s st (goes_from a r)) (waiting st) ≡ true → old ≡ st) → (e : ℕ) → e ≡ nat_abs t.receiver → (x : Outcome) → x ≡ panicking s (limit_of s) old e st' → x ≡ corrupt s (limit_of s) st a r
  unfolding corrupt
  corrupts old undo e i x g =
      g
      ∙ ap (λ o. panicking s (limit_of s) o e st') (undo (waits o (goes_from a r) at k))
      ∙ ap (λ e. panicking s (limit_of s) st e st') (i ∙ ap nat_abs to)
      ∙ sym (took o (goes_from a r) at k (λ t st'. with_number r (λ e. panicking s (limit_of s) st e st')) ∙ number_is r _ _ (subst (λ z. is_below z (components_of s) ≡ true) to (receiver-below s ok t (taken_fits o k))))

-- ---- an internal telegram of r: Inner

module _ {s : List ℕ} (ok : check_of s ≡ Passed) {st : List ℤ} (o : OfSheet s st) {j : ℕ} (r : ℤ) (at : j ≡ oldest s st (inner_of r)) {t : Telegram} {st' : List ℤ} (k : Takes s st j t st') where
  pub taken_inner : is_internal t ≡ true
  taken_inner = and_first _ _ (meets o (inner_of r) at k)

  its : t.receiver ≡ r
  its = same_word_lem _ _ (and_second _ _ (meets o (inner_of r) at k))

  name_word : is_below t.name (count_of s names) ≡ true
  unfolding internal_fits name_fits
  name_word = and_first _ _ (and_first _ _ (and_second _ _ (and_second _ _ (internal_part s t (taken_fits o k) taken_inner))))

  pub reacts : (old : List ℤ) → (ltb (oldest s st (inner_of r)) (waiting st) ≡ true → old ≡ st) → (x : Outcome) → x ≡ reacting s (limit_of s) old (nat_abs t.receiver) (element_body s (nat_abs t.receiver) (reacts_to (nat_abs t.name))) t st' → x ≡ inner s (limit_of s) st r
  unfolding inner
  reacts old undo x g =
      g
      ∙ ap (λ o. reacting s (limit_of s) o (nat_abs t.receiver) (element_body s (nat_abs t.receiver) (reacts_to (nat_abs t.name))) t st') (undo (waits o (inner_of r) at k))
      ∙ ap (λ r. reacting s (limit_of s) st (nat_abs r) (element_body s (nat_abs r) (reacts_to (nat_abs t.name))) t st') its
      ∙ sym (took o (inner_of r) at k (λ t st'. with_number r (λ e. with_number t.name (λ n. reacting s (limit_of s) st e (element_body s e (reacts_to n)) t st'))) ∙ number_is r _ _ (subst (λ z. is_below z (components_of s) ≡ true) its (receiver-below s ok t (taken_fits o k))) ∙ number_is t.name _ _ name_word)
