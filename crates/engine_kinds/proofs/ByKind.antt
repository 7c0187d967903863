-- An event on a state of the sheet, kind by kind.
use Rattle.std.specs.Prelude.{None, Option, Some}
use Prim.Native.Nat.{ℕ}
use mathlib.Core.Path.{◌≡◌, refl, sym, ap, subst, ◌∙◌}
use mathlib.Core.List.{List}
use mathlib.Core.Bool.{Bool, true, false}
use lib.ListN.{length}
use lib.IntN.{ℤ, nat_abs}
use Rattle.sheet_rules.specs.Types.{reacts_to}
use Rattle.machine.specs.declared.Answer.{Answer}
use Rattle.machine.specs.declared.Telegram.{Telegram}
use Rattle.machine.specs.Values.{is_bound}
use Rattle.machine.specs.State.{is_internal}
use Rattle.machine.specs.Valid.{telegram_fits, OfSheet}
use Rattle.machine.specs.Play.{Outcome, ended, answer, element_body, goes_from, inner_of, oldest, taking, reacting, panicking, delivered, outside, deliver, corrupt, inner, slice, limit_of}
use Rattle.machine_events.specs.declared.Event.{Event}
use Rattle.machine_events.specs.declared.Event.TheVariants.{Malformed, Outside, Deliver, Corrupt, Inner, Slice}
use Rattle.machine_events.specs.Event.{happens_by}
use Rattle.machine_events.specs.Sought.{sought_at, may_undo, receiver_bound}
use Rattle.machine_events.specs.Takes.{Takes}
use Rattle.machine_events.proofs.Taken.{taken_fits, taken_kept, took_none, taken_outer, corrupt-bound, delivers, corrupts, taken_inner, reacts}
use Rattle.engine_sought.specs.Taken.{TakenFrom}
use Rattle.engine_kinds.specs.Happens.{Happens}
use Rattle.sheet_rules.specs.declared.Checked.TheVariants.{Passed}
use Rattle.sheet_rules.specs.Check.{check_of}

module _ {s : List ℕ} (ok : check_of s ≡ Passed) {old st : List ℤ} {e : Event} {j : ℕ} (h : Happens s old st e j) where
  o : OfSheet s st
  o = h.state

  -- what the machine comes to, by the event as it was taken apart
  by : (e' : Event) → e ≡ e' → {x : Outcome} → x ≡ happens_by s (limit_of s) st e' → x ≡ happens_by s (limit_of s) st e
  by e' q g = g ∙ ap (happens_by s (limit_of s) st) (sym q)

  at : (e' : Event) → e ≡ e' → j ≡ sought_at s st e'
  at e' q = h.sought ∙ ap (sought_at s st) q

  undo : (e' : Event) → e ≡ e' → may_undo s st e' ≡ true → old ≡ st
  undo e' q u = h.copied (ap (may_undo s st) q ∙ u)

  -- ---- events that take no telegram

  pub malformed_happens : e ≡ Malformed → (a : Answer) → a ≡ answer 4 0 None → ended a st ≡ happens_by s (limit_of s) st e
  unfolding happens_by
  malformed_happens q a g = by Malformed q (ap (λ a. ended a st) g)

  pub outside-happens : (t : Telegram) → e ≡ Outside t → {x : Outcome} → x ≡ outside s st t → x ≡ happens_by s (limit_of s) st e
  unfolding happens_by
  outside-happens t q g = by (Outside t) q g

  module _ (q : e ≡ Slice) where
    pub slice-copied : old ≡ st
    unfolding may_undo
    slice-copied = undo Slice q refl

    pub slice-happens : {x : Outcome} → x ≡ slice s old → x ≡ happens_by s (limit_of s) st e
    unfolding happens_by
    slice-happens g = by Slice q (g ∙ ap (slice s) slice-copied)

  -- ---- a telegram taken

  module _ {k : Option Telegram} {st' : List ℤ} (took : TakenFrom s st j k st') where
    missing : k ≡ None → (p : Telegram → Bool) → j ≡ oldest s st p → (K : Telegram → List ℤ → Outcome) → (a : Answer) → a ≡ answer 5 0 None → ended a st' ≡ taking s st p K
    missing m p f K a g =
        let none = subst (λ k. TakenFrom s st j k st') m took in
        ap (λ a. ended a st') g ∙ ap (ended (answer 5 0 None)) none.1 ∙ sym (took_none o p f K none.0)

    pub deliver_missing : k ≡ None → (a r : ℤ) → e ≡ Deliver a r → (x : Answer) → x ≡ answer 5 0 None → ended x st' ≡ happens_by s (limit_of s) st e
    unfolding happens_by sought_at deliver
    deliver_missing m a r q x g = by (Deliver a r) q (missing m (goes_from a r) (at (Deliver a r) q) _ x g)

    pub corrupt_missing : k ≡ None → (a r : ℤ) → e ≡ Corrupt a r → (x : Answer) → x ≡ answer 5 0 None → ended x st' ≡ happens_by s (limit_of s) st e
    unfolding happens_by sought_at corrupt
    corrupt_missing m a r q x g = by (Corrupt a r) q (missing m (goes_from a r) (at (Corrupt a r) q) _ x g)

    pub inner_missing : k ≡ None → (r : ℤ) → e ≡ Inner r → (x : Answer) → x ≡ answer 5 0 None → ended x st' ≡ happens_by s (limit_of s) st e
    unfolding happens_by sought_at inner
    inner_missing m r q x g = by (Inner r) q (missing m (inner_of r) (at (Inner r) q) _ x g)

    pub takes : (t : Telegram) → k ≡ Some t → Takes s st j t st'
    takes t m = subst (λ k. TakenFrom s st j k st') m took

  module _ {t : Telegram} {st' : List ℤ} (w : Takes s st j t st') where
    pub plays : OfSheet s st'
    plays = taken_kept o w

    pub old-long : length old ≡ length st'
    old-long = h.long ∙ o.whole ∙ sym (taken_kept o w).whole

    pub fits : telegram_fits s t ≡ true
    fits = taken_fits o w

    module _ (a r : ℤ) (q : e ≡ Deliver a r) where
      pub deliver_outer : is_internal t ≡ false
      unfolding sought_at
      deliver_outer = taken_outer ok o a r (at (Deliver a r) q) w

      pub deliver-happens : {x : Outcome} → x ≡ delivered s (limit_of s) old t st' → x ≡ happens_by s (limit_of s) st e
      unfolding happens_by sought_at may_undo
      deliver-happens g = by (Deliver a r) q (delivers ok o a r (at (Deliver a r) q) w old (undo (Deliver a r) q) _ g)

    module _ (a r : ℤ) (q : e ≡ Corrupt a r) (n : ℕ) (i : n ≡ nat_abs t.receiver) where
      pub corrupted_bound : is_bound s n ≡ true
      unfolding sought_at receiver_bound
      corrupted_bound = corrupt-bound ok o a r (at (Corrupt a r) q) w (sym (ap (receiver_bound s) q) ∙ h.bound) n i

      pub corrupt-happens : {x : Outcome} → x ≡ panicking s (limit_of s) old n st' → x ≡ happens_by s (limit_of s) st e
      unfolding happens_by sought_at may_undo
      corrupt-happens g = by (Corrupt a r) q (corrupts ok o a r (at (Corrupt a r) q) w old (undo (Corrupt a r) q) n i _ g)

    module _ (r : ℤ) (q : e ≡ Inner r) where
      pub inner-inside : is_internal t ≡ true
      unfolding sought_at
      inner-inside = taken_inner ok o r (at (Inner r) q) w

      pub inner-happens : {x : Outcome} → x ≡ reacting s (limit_of s) old (nat_abs t.receiver) (element_body s (nat_abs t.receiver) (reacts_to (nat_abs t.name))) t st' → x ≡ happens_by s (limit_of s) st e
      unfolding happens_by sought_at may_undo
      inner-happens g = by (Inner r) q (reacts ok o r (at (Inner r) q) w old (undo (Inner r) q) _ g)
