-- Laws of the kinds of event.
use Prim.Native.Nat.{ℕ}
use mathlib.Core.Path.{◌≡◌, refl, sym, ap, ◌∙◌}
use mathlib.Core.List.{List}
use mathlib.Core.Bool.{Bool, true, false}
use lib.ListN.{length}
use lib.Dec.{eqb}
use lib.IntN.{ℤ, pos}
use mir.Syntax.{w32}
use mir.Val.{to_z, of_z}
use borrow.Author.Tests.{eq-eqb, ne_eqb}
use Rattle.sheet.specs.Table.{look_up}
use Rattle.sheet.proofs.All.{first_fails_lem, first_holds}
use Rattle.machine.specs.Values.{fits32}
use Rattle.machine.specs.State.{word_of}
use Rattle.machine.specs.Kinds.{Kind, outside, deliver, corrupt, inner, slice, kind_of}
use Rattle.machine.specs.Play.{words_of_event, well_formed, is_event}
use Rattle.machine_equations.proofs.EventKinds.{no_kind_lem}
use Rattle.machine_events.specs.declared.Event.{Event}
use Rattle.machine_events.specs.declared.Event.TheVariants.{Malformed}
use Rattle.machine_events.specs.Event.{event_as, event_of}
use Rattle.engine_valid_words.proofs.Laws.{read_back}
use Rattle.engine_valid_events.specs.Read.{read_as}

-- a word that was read, by its bits
pub word_is : (z w : ℤ) (n : ℕ) → z ≡ w → fits32 z ≡ true → of_z w32 z ≡ n → w ≡ to_z w32 n
word_is z w n e h b = sym (read_back z w e h) ∙ ap (to_z w32) b

pub word_not : (z w : ℤ) (n : ℕ) → z ≡ w → (of_z w32 z ≡ n → ⊥) → w ≡ pos n → ⊥
word_not z w n e h b = h (ap (of_z w32) (e ∙ b))

-- ---- by one kind

chosen : List ℤ → Kind → Bool → Event
chosen ev k b = elim b [ true ↦ event_as ev k | false ↦ Malformed ]

module _ (s : List ℕ) (ev : List ℤ) (k : Kind) (e : Event) where
  pub read_so_lem : well_formed s ev k ≡ true → e ≡ event_as ev k → e ≡ read_as s ev k
  unfolding chosen
  read_so_lem h q = q ∙ sym (ap (chosen ev k) h)

  pub read_none : well_formed s ev k ≡ false → e ≡ Malformed → e ≡ read_as s ev k
  unfolding chosen
  read_none h q = q ∙ sym (ap (chosen ev k) h)

-- ---- by the kind that the first word says

module _ (s : List ℕ) (ev : List ℤ) (e : Event) where
  pub another_length : (length ev ≡ words_of_event → ⊥) → e ≡ Malformed → e ≡ event_of s ev
  unfolding event_of is_event chosen
  another_length h q = q ∙ ap (chosen ev (kind_of (word_of ev 0))) (first_fails_lem (eqb (length ev) words_of_event) _ (ne_eqb (length ev) words_of_event h))

  module _ (nine : length ev ≡ words_of_event) where
    formed : well_formed s ev (kind_of (word_of ev 0)) ≡ is_event s ev
    unfolding is_event
    formed = first_holds (eqb (length ev) words_of_event) _ _ (eq-eqb (length ev) words_of_event nine) refl

    by_kind : (z : ℤ) → word_of ev 0 ≡ z → e ≡ read_as s ev (kind_of z) → e ≡ event_of s ev
    unfolding event_of chosen
    by_kind z q h = h ∙ ap (λ z. read_as s ev (kind_of z)) (sym q) ∙ ap (chosen ev (kind_of (word_of ev 0))) formed

    pub kind_1 : word_of ev 0 ≡ pos 1 → e ≡ read_as s ev outside → e ≡ event_of s ev
    unfolding kind_of look_up
    kind_1 q h = by_kind (pos 1) q h

    pub kind_2 : word_of ev 0 ≡ pos 2 → e ≡ read_as s ev deliver → e ≡ event_of s ev
    unfolding kind_of look_up
    kind_2 q h = by_kind (pos 2) q h

    pub kind_3 : word_of ev 0 ≡ pos 3 → e ≡ read_as s ev corrupt → e ≡ event_of s ev
    unfolding kind_of look_up
    kind_3 q h = by_kind (pos 3) q h

    pub kind_4 : word_of ev 0 ≡ pos 4 → e ≡ read_as s ev inner → e ≡ event_of s ev
    unfolding kind_of look_up
    kind_4 q h = by_kind (pos 4) q h

    pub kind_5 : word_of ev 0 ≡ pos 5 → e ≡ read_as s ev slice → e ≡ event_of s ev
    unfolding kind_of look_up
    kind_5 q h = by_kind (pos 5) q h

    pub of_no_kind : (word_of ev 0 ≡ pos 1 → ⊥) → (word_of ev 0 ≡ pos 2 → ⊥) → (word_of ev 0 ≡ pos 3 → ⊥) → (word_of ev 0 ≡ pos 4 → ⊥) → (word_of ev 0 ≡ pos 5 → ⊥) → e ≡ Malformed → e ≡ event_of s ev
    unfolding well_formed
    of_no_kind n₁ n₂ n₃ n₄ n₅ q = by_kind (word_of ev 0) refl (q ∙ ap (read_as s ev) (sym (no_kind_lem (word_of ev 0) n₁ n₂ n₃ n₄ n₅)))
