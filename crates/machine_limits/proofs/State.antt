-- Where things lie in the state, appending and removing.
use Prim.Native.Nat.{ℕ, ◌+◌, ◌*◌, ◌-◌}
use mathlib.Core.List.{List, ◌++◌}
use mathlib.Core.Bool.{true, false}
use mathlib.Core.Path.{◌≡◌}
use lib.ListN.{take, drop, replicate}
use lib.Dec.{ltb}
use lib.IntN.{pos}
use Rattle.sheet_rules.specs.Fields.{count_below}
use Rattle.machine.specs.State.{places, cell_at, cell_of, place_at, state_length, waiting, set_waiting, telegram_in, telegram_of, words_of, put_words, places_from, with_telegram, counted, same_class, waiting_like, class_limit, appended, without_telegram, on, off, lost}
use Rattle.sheet_limits.specs.ButLimit.{ButLimit}
use Rattle.sheet_limits.proofs.Indices.{same_cells_before}
use Rattle.sheet_limits.proofs.Shape.{same_cells_of}
use Rattle.machine_limits.proofs.Values.{same_first_cell}

module _ {s s' : List ℕ} (h : ButLimit s s') where
  pub same_cell_of : cell_of s ≡ cell_of s'
  unfolding cell_of
  same_cell_of = λ q e c n k. cell_at (same_first_cell h q e + same_cells_before h q c n + k)

  pub same_place_at : place_at s ≡ place_at s'
  unfolding place_at
  same_place_at = λ q j. 8 + 8 * same_cells_of h q + 8 * j

  pub same_state_length : state_length s ≡ state_length s'
  unfolding state_length
  same_state_length = λ q. same_place_at q places

  pub same_telegram_of : telegram_of s ≡ telegram_of s'
  unfolding telegram_of
  same_telegram_of = λ q st j. telegram_in st (same_place_at q j)

  pub same_with_telegram : with_telegram s ≡ with_telegram s'
  unfolding with_telegram
  same_with_telegram = λ q st t. set_waiting (put_words st (same_place_at q (waiting st)) (words_of t)) (waiting st + 1)

  pub same_waiting_like : waiting_like s ≡ waiting_like s'
  unfolding waiting_like
  same_waiting_like = λ q st t. count_below (waiting st) (λ j. same_class t (same_telegram_of q st j))

  pub same_appended : appended s ≡ appended s'
  unfolding appended
  same_appended = λ q st t.
      elim (counted st) [
        | true ↦ elim (ltb (waiting st) places) [ true ↦ elim (ltb (same_waiting_like q st t) class_limit) [ true ↦ on (same_with_telegram q st t) | false ↦ off 12 ] | false ↦ off 8 ]
        | false ↦ lost
      ]

  same_places_from : places_from s ≡ places_from s'
  unfolding places_from
  same_places_from = λ q st i. take (8 * (places - i)) (drop (same_place_at q i) st)

  pub same_without_telegram : without_telegram s ≡ without_telegram s'
  unfolding without_telegram
  same_without_telegram = λ q st j. set_waiting (put_words st (same_place_at q j) (same_places_from q st (j + 1) ++ replicate 8 (pos 0))) (waiting st - 1)
