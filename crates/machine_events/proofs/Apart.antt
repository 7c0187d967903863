-- An event taken apart is a well formed one of its kind, or malformed.
use Prim.Native.Nat.{ℕ}
use mathlib.Core.Path.{◌≡◌, refl, sym, ap, ◌∙◌}
use mathlib.Core.List.{List}
use mathlib.Core.Bool.{Bool, true, false, not}
use lib.ListN.{length}
use lib.Dec.{eqb}
use lib.IntN.{ℤ}
use Rattle.sheet.proofs.All.{true_false, and_first, and_second}
use Rattle.sheet_rules.specs.declared.Checked.TheVariants.{Passed}
use Rattle.sheet_rules.specs.Fields.{components_of}
use Rattle.sheet_rules.specs.Check.{check_of}
use Rattle.machine.specs.Values.{is_below}
use Rattle.machine.specs.State.{state_length, word_of}
use Rattle.machine.specs.Valid.{content_fits}
use Rattle.machine.specs.Kinds as kind
use Rattle.machine.specs.Kinds.{Kind, kind_of}
use Rattle.machine.specs.Play.{limit_of, rest_zero, bound_word, well_formed, words_of_event, is_event, happens_as, happens, event_call}
use Rattle.machine_events.specs.declared.Event.{Event}
use Rattle.machine_events.specs.declared.Event.TheVariants.{Malformed}
use Rattle.machine_events.specs.Event.{event_as, event_of, is_malformed, happens_by}
use Rattle.machine_events.specs.Sought.{receiver_bound}
use Rattle.machine.proofs.Calls.{event-played}
use Rattle.machine_events.proofs.Laws.{event_malformed}

module _ (s : List ℕ) (ev : List ℤ) where
  formed : is_event s ev ≡ true → well_formed s ev (kind_of (word_of ev 0)) ≡ true
  unfolding is_event
  formed h = and_second (eqb (length ev) words_of_event) _ h

  pub event_as_lem : is_event s ev ≡ true → event_of s ev ≡ event_as ev (kind_of (word_of ev 0))
  unfolding event_of
  event_as_lem h = rw (event_of, h) refl

  pub event-none : is_event s ev ≡ false → event_of s ev ≡ Malformed
  unfolding event_of
  event-none h = rw (event_of, h) refl

  -- what holds of every well formed event, kind by kind, and of a malformed one
  each : (p : Event → Bool) → p Malformed ≡ true → ((k : Kind) → well_formed s ev k ≡ true → p (event_as ev k) ≡ true) → p (event_of s ev) ≡ true
  each p none some = go (is_event s ev) refl
    where
      go : (b : Bool) → is_event s ev ≡ b → p (event_of s ev) ≡ true
      go true q = ap p (event_as_lem q) ∙ some (kind_of (word_of ev 0)) (formed q)
      go false q = ap p (event-none q) ∙ none

  pub receiver-bound : receiver_bound s (event_of s ev) ≡ true
  unfolding receiver_bound event_as well_formed
  receiver-bound = each (receiver_bound s) refl go
    where
      go : (k : Kind) → well_formed s ev k ≡ true → receiver_bound s (event_as ev k) ≡ true
      go kind.outside h = refl
      go kind.deliver h = refl
      go kind.corrupt h = and_first (bound_word s (word_of ev 2)) (rest_zero ev 3) (and_second (is_below (word_of ev 1) (components_of s)) _ h)
      go kind.inner h = refl
      go kind.slice h = refl
      go kind.no_kind h = refl

  pub malformed_is : is_malformed (event_of s ev) ≡ not (is_event s ev)
  unfolding is_malformed event_as well_formed
  malformed_is = go (is_event s ev) refl
    where
      of_kind_lem : (k : Kind) → well_formed s ev k ≡ true → is_malformed (event_as ev k) ≡ false
      of_kind_lem kind.outside h = refl
      of_kind_lem kind.deliver h = refl
      of_kind_lem kind.corrupt h = refl
      of_kind_lem kind.inner h = refl
      of_kind_lem kind.slice h = refl
      of_kind_lem kind.no_kind h = absurd (true_false h refl)

      go : (b : Bool) → is_event s ev ≡ b → is_malformed (event_of s ev) ≡ not (is_event s ev)
      go true q = ap is_malformed (event_as_lem q) ∙ of_kind_lem (kind_of (word_of ev 0)) (formed q) ∙ sym (ap not q)
      go false q = ap is_malformed (event-none q) ∙ sym (ap not q)

  -- the one law to the machine's own reading of an event's words
  pub happens_by_lem : (limit : ℕ) (st : List ℤ) → is_event s ev ≡ true → happens s limit st ev ≡ happens_by s limit st (event_of s ev)
  unfolding happens happens_as happens_by event_as well_formed
  happens_by_lem limit st h = go (kind_of (word_of ev 0)) (formed h) ∙ sym (ap (happens_by s limit st) (event_as_lem h))
    where
      go : (k : Kind) → well_formed s ev k ≡ true → happens_as s limit st ev k ≡ happens_by s limit st (event_as ev k)
      go kind.outside w = refl
      go kind.deliver w = refl
      go kind.corrupt w = refl
      go kind.inner w = refl
      go kind.slice w = refl
      go kind.no_kind w = absurd (true_false w refl)

  -- an event on a state of a passed sheet that is lent as the result too
  pub event_by : check_of s ≡ Passed → (st : List ℤ) → length st ≡ state_length s → content_fits s st ≡ true → happens_by s (limit_of s) st (event_of s ev) ≡ event_call s (limit_of s) st st ev
  unfolding happens_by
  event_by ok st l c = go (is_event s ev) refl
    where
      go : (b : Bool) → is_event s ev ≡ b → happens_by s (limit_of s) st (event_of s ev) ≡ event_call s (limit_of s) st st ev
      go true q = sym (event-played s (limit_of s) st st ev ok l l c q ∙ happens_by_lem (limit_of s) st q)
      go false q = ap (happens_by s (limit_of s) st) (event-none q) ∙ sym (event_malformed s st st ev ok l l c q)
