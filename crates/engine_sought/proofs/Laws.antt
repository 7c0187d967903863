-- Whether there may be work to undo, kind by kind.
use Prim.Native.Nat.{ℕ}
use mathlib.Core.Path.{◌≡◌, refl, sym, ap, ◌∙◌}
use mathlib.Core.List.{List}
use mathlib.Core.Bool.{Bool, true, false, not}
use lib.Dec.{ltb}
use lib.IntN.{ℤ}
use Rattle.sheet.specs.All.{◌and◌}
use Rattle.sheet.proofs.All.{and-false}
use Rattle.sheet_rules.specs.Fields.{externals_of}
use Rattle.machine.specs.Values.{is_below}
use Rattle.machine.specs.State.{waiting}
use Rattle.machine.specs.Play.{goes_from, inner_of, oldest}
use Rattle.machine_events.specs.declared.Event.{Event}
use Rattle.machine_events.specs.declared.Event.TheVariants.{Deliver, Corrupt, Inner}
use Rattle.machine_events.specs.Sought.{sought_at, may_undo}

both : (a b : Bool) → b ≡ true → a and b ≡ a
unfolding ◌and◌
both true b h = h
both false b h = refl

module _ (s : List ℕ) (st : List ℤ) (e : Event) where
  pub handed_on : (a r : ℤ) → e ≡ Deliver a r → is_below r (externals_of s) ≡ true → false ≡ may_undo s st e
  unfolding may_undo
  handed_on a r q b = sym (ap (may_undo s st) q ∙ and-false (ltb (oldest s st (goes_from a r)) (waiting st)) _ (ap not b))

  module _ (j : ℕ) (at : j ≡ sought_at s st e) (w : ℕ) (v : w ≡ waiting st) where
    waits : (k : ℕ) → sought_at s st e ≡ k → ltb j w ≡ ltb k (waiting st)
    waits k q = ap (λ j. ltb j w) (at ∙ q) ∙ ap (ltb k) v

    pub deliver_undone : (a r : ℤ) → e ≡ Deliver a r → is_below r (externals_of s) ≡ false → ltb j w ≡ may_undo s st e
    unfolding sought_at may_undo
    deliver_undone a r q b = waits (oldest s st (goes_from a r)) (ap (sought_at s st) q) ∙ sym (ap (may_undo s st) q ∙ both (ltb (oldest s st (goes_from a r)) (waiting st)) _ (ap not b))

    pub corrupt_undone : (a r : ℤ) → e ≡ Corrupt a r → ltb j w ≡ may_undo s st e
    unfolding sought_at may_undo
    corrupt_undone a r q = waits (oldest s st (goes_from a r)) (ap (sought_at s st) q) ∙ sym (ap (may_undo s st) q)

    pub inner_undone : (r : ℤ) → e ≡ Inner r → ltb j w ≡ may_undo s st e
    unfolding sought_at may_undo
    inner_undone r q = waits (oldest s st (inner_of r)) (ap (sought_at s st) q) ∙ sym (ap (may_undo s st) q)
