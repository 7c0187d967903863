-- Where a telegram is appended, and what follows from it.
use Prim.Native.Nat.{ℕ, ◌<◌, ◌≤◌}
use mathlib.Core.Path.{◌≡◌, refl, sym, ap, subst, ◌∙◌}
use mathlib.Core.List.{List}
use mathlib.Core.Bool.{Bool, true, false}
use lib.Dec.{ltb}
use lib.IntN.{ℤ}
use borrow.Author.Tests.{ltb-true, lt-ltb, le-ltb}
use Rattle.machine.specs.declared.Telegram.{Telegram}
use Rattle.machine.specs.State.{places, waiting, waiting_like, class_limit, with_telegram, Changed, on, off, lost, counted, appended}

module _ (s : List ℕ) (st : List ℤ) (t : Telegram) (c : counted st ≡ true) where
  -- whether there is a place, and room in the class
  abbrev room : Bool → Bool → Changed
  room b d = elim b [ true ↦ elim d [ true ↦ on (with_telegram s st t) | false ↦ off 12 ] | false ↦ off 8 ]

  abbrev in_class : Bool
  in_class = ltb (waiting_like s st t) class_limit

  with_count_lem : appended s st t ≡ room (ltb (waiting st) places) in_class
  unfolding appended
  with_count_lem = ap (λ b. elim b as (λ b. Changed) [ true ↦ room (ltb (waiting st) places) in_class | false ↦ lost ]) c

  with_place_lem : waiting st < places → appended s st t ≡ room true in_class
  with_place_lem h = with_count_lem ∙ ap (λ b. room b in_class) (lt-ltb (waiting st) places h)

  pub appended_room : waiting st < places → waiting_like s st t < class_limit → on (with_telegram s st t) ≡ appended s st t
  appended_room h k = sym (with_place_lem h ∙ ap (room true) (lt-ltb (waiting_like s st t) class_limit k))

  pub appended_full : places ≤ waiting st → off 8 ≡ appended s st t
  appended_full h = sym (with_count_lem ∙ ap (λ b. room b in_class) (le-ltb (waiting st) places h))

  pub appended-class_full : waiting st < places → class_limit ≤ waiting_like s st t → off 12 ≡ appended s st t
  appended-class_full h k = sym (with_place_lem h ∙ ap (room true) (le-ltb (waiting_like s st t) class_limit k))

  -- whatever holds of the appended telegram's state, where there is room, and of both refusals holds of appending
  pub appending : (P : Changed → Type 0) → (waiting st < places → waiting_like s st t < class_limit → P (on (with_telegram s st t))) → P (off 8) → P (off 12) → P (appended s st t)
  appending P h full classFull = subst P (sym with_count_lem) (go (ltb (waiting st) places) refl in_class refl)
    where
      go : (b : Bool) → ltb (waiting st) places ≡ b → (d : Bool) → in_class ≡ d → P (room b d)
      go true q true r = h (ltb-true (waiting st) places q) (ltb-true (waiting_like s st t) class_limit r)
      go true q false r = classFull
      go false q d r = full
