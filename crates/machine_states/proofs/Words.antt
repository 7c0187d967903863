-- The words of a state after a change: one word, some words in a row, a telegram appended, a telegram removed.
use Prim.Native.Nat.{ℕ, ◌+◌, ◌*◌, ◌-◌, ◌<◌, ◌≤◌}
use mathlib.Core.Path.{◌≡◌, sym, ap, ◌∙◌}
use mathlib.Core.Logic.{◌≢◌}
use mathlib.Core.List.{List, ◌++◌}
use native.Mathlib.Omega.{arith}
use lib.ListN.{length, take, drop, set, replicate, length-append, length-drop, length-set, get_or-replicate, get_or-append}
use lib.Seq.{length-take-le, get_or-take, get_or-drop, get_or-append-add, get_or-set_same, get_or-set_other}
use lib.IntN.{ℤ, pos, nat_abs}
use Rattle.machine.specs.declared.Telegram.{Telegram}
use Rattle.machine.specs.State.{places, place_at, state_length, word_of, waiting, set_waiting, telegram_in, telegram_of, words_of, put_words, places_from, with_telegram, without_telegram}
use Rattle.machine_states.proofs.Frame.{Same, telegram_same}

-- ---- lists one after another

pub word_front_lem : (a b : List ℤ) (i : ℕ) → i < length a → word_of (a ++ b) i ≡ word_of a i
unfolding word_of
word_front_lem a b i l = get_or-append a b (pos 0) i l

pub word_rest : (a b : List ℤ) (n i : ℕ) → length a ≡ n → word_of (a ++ b) (n + i) ≡ word_of b i
unfolding word_of
word_rest a b n i e = rw (sym e) (get_or-append-add a b i (pos 0))

-- ---- words in a row

module _ (st : List ℤ) (at : ℕ) (ws : List ℤ) (fit : at + length ws ≤ length st) where
  front_length : length (take at st) ≡ at
  front_length = length-take-le at st (omega arith)

  put_length : length (take at st ++ ws) ≡ at + length ws
  put_length = length-append (take at st) ws ∙ ap (λ (n : ℕ). n + length ws) front_length

  pub length-put : length (put_words st at ws) ≡ length st
  unfolding put_words
  length-put = omega (arith, length-append (take at st ++ ws) (drop (at + length ws) st), put_length, length-drop (at + length ws) st)

  pub word_put_in : (k : ℕ) → k < length ws → word_of (put_words st at ws) (at + k) ≡ word_of ws k
  unfolding put_words
  word_put_in k l = word_front_lem (take at st ++ ws) _ (at + k) (omega (arith, put_length)) ∙ word_rest (take at st) ws at k front_length

  pub word_put_before : (i : ℕ) → i < at → word_of (put_words st at ws) i ≡ word_of st i
  unfolding put_words word_of
  word_put_before i l =
      word_front_lem (take at st ++ ws) _ i (omega (arith, put_length))
      ∙ word_front_lem (take at st) ws i (omega (arith, front_length))
      ∙ get_or-take at st i (pos 0) l

  pub word_put_behind : (i : ℕ) → at + length ws ≤ i → word_of (put_words st at ws) i ≡ word_of st i
  unfolding put_words word_of
  word_put_behind i l =
      let e : at + length ws + (i - (at + length ws)) ≡ i = omega arith in
      rw e at (word_rest (take at st ++ ws) (drop (at + length ws) st) (at + length ws) (i - (at + length ws)) put_length ∙ get_or-drop (at + length ws) st (i - (at + length ws)) (pos 0))

-- ---- one word

pub word_set : (st : List ℤ) (i : ℕ) (z : ℤ) → i < length st → word_of (set st i z) i ≡ z
unfolding word_of
word_set st i z l = get_or-set_same st i z (pos 0) l

pub word_set_other : (st : List ℤ) (i j : ℕ) (z : ℤ) → j ≢ i → word_of (set st i z) j ≡ word_of st j
unfolding word_of
word_set_other st i j z n = get_or-set_other st i j z (pos 0) n

pub length_waiting_lem : (st : List ℤ) (n : ℕ) → length (set_waiting st n) ≡ length st
unfolding set_waiting
length_waiting_lem st n = length-set st 0 (pos n)

pub word_waiting : (st : List ℤ) (n : ℕ) → 0 < length st → word_of (set_waiting st n) 0 ≡ pos n
unfolding set_waiting
word_waiting st n l = word_set st 0 (pos n) l

pub word_not_waiting : (st : List ℤ) (n i : ℕ) → 0 < i → word_of (set_waiting st n) i ≡ word_of st i
unfolding set_waiting
word_not_waiting st n i l = word_set_other st 0 i (pos n) (λ e. omega arith)

-- ---- a telegram's words

pub words-telegram : (st : List ℤ) (at : ℕ) (t : Telegram) → Same st at (words_of t) 0 → telegram_in st at ≡ t
unfolding telegram_in word_of
words-telegram st at t h = telegram_same st at (words_of t) 0 h

-- ---- a telegram appended

module _ (s : List ℕ) (st : List ℤ) (t : Telegram) (whole : length st ≡ state_length s) (room : waiting st < places) where
  abbrev appended : List ℤ
  appended = put_words st (place_at s (waiting st)) (words_of t)

  last_fits : place_at s (waiting st) + 8 ≤ length st
  unfolding place_at state_length
  last_fits = omega arith

  appended_length : length appended ≡ length st
  appended_length = length-put st (place_at s (waiting st)) (words_of t) last_fits

  pub with_length : length (with_telegram s st t) ≡ length st
  unfolding with_telegram
  with_length = length_waiting_lem appended (waiting st + 1) ∙ appended_length

  pub with_head_lem : word_of (with_telegram s st t) 0 ≡ pos (waiting st + 1)
  unfolding with_telegram
  with_head_lem = word_waiting appended (waiting st + 1) (omega (arith, last_fits, appended_length))

  pub with_waiting : waiting (with_telegram s st t) ≡ waiting st + 1
  unfolding waiting
  with_waiting = ap nat_abs with_head_lem

  pub with_before : (i : ℕ) → 0 < i → i < place_at s (waiting st) → word_of (with_telegram s st t) i ≡ word_of st i
  unfolding with_telegram
  with_before i p l = word_not_waiting appended (waiting st + 1) i p ∙ word_put_before st (place_at s (waiting st)) (words_of t) last_fits i l

  pub with_in : Same (with_telegram s st t) (place_at s (waiting st)) (words_of t) 0
  unfolding with_telegram place_at
  with_in k l = let e : 0 + k ≡ k = omega arith in rw e (word_not_waiting appended (waiting st + 1) (place_at s (waiting st) + k) (omega arith) ∙ word_put_in st (place_at s (waiting st)) (words_of t) last_fits k l)

  pub with_behind : (i : ℕ) → place_at s (waiting st + 1) ≤ i → word_of (with_telegram s st t) i ≡ word_of st i
  unfolding with_telegram place_at
  with_behind i l = word_not_waiting appended (waiting st + 1) i (omega arith) ∙ word_put_behind st (place_at s (waiting st)) (words_of t) last_fits i (omega arith)

  pub with_last_lem : telegram_of s (with_telegram s st t) (waiting st) ≡ t
  unfolding telegram_of
  with_last_lem = words-telegram (with_telegram s st t) (place_at s (waiting st)) t with_in

  pub with_earlier : (j : ℕ) → j < waiting st → telegram_of s (with_telegram s st t) j ≡ telegram_of s st j
  unfolding telegram_of place_at
  with_earlier j l = telegram_same (with_telegram s st t) (place_at s j) st (place_at s j) (λ k m. with_before (place_at s j + k) (omega arith) (omega arith))

-- ---- a telegram removed

module _ (s : List ℕ) (st : List ℤ) (j : ℕ) (whole : length st ≡ state_length s) (here : j < waiting st) (limit : waiting st ≤ places) where
  -- what stands in the places from j on once later ones closed up
  abbrev closed : List ℤ
  closed = places_from s st (j + 1) ++ replicate 8 (pos 0)

  abbrev removed : List ℤ
  removed = put_words st (place_at s j) closed

  later_length : length (places_from s st (j + 1)) ≡ 8 * (places - (j + 1))
  unfolding places_from place_at state_length
  later_length = length-take-le (8 * (places - (j + 1))) (drop (place_at s (j + 1)) st) (omega (arith, length-drop (place_at s (j + 1)) st))

  closed_length : length closed ≡ 8 * (places - j)
  closed_length = omega (arith, length-append (places_from s st (j + 1)) (replicate 8 (pos 0)), later_length)

  closed_fits : place_at s j + length closed ≤ length st
  unfolding place_at state_length
  closed_fits = omega (arith, closed_length)

  removed_length : length removed ≡ length st
  removed_length = length-put st (place_at s j) closed closed_fits

  pub without_length : length (without_telegram s st j) ≡ length st
  unfolding without_telegram
  without_length = length_waiting_lem removed (waiting st - 1) ∙ removed_length

  pub without_head_lem : word_of (without_telegram s st j) 0 ≡ pos (waiting st - 1)
  unfolding without_telegram place_at state_length
  without_head_lem = word_waiting removed (waiting st - 1) (omega (arith, removed_length))

  pub without_waiting : waiting (without_telegram s st j) ≡ waiting st - 1
  unfolding waiting
  without_waiting = ap nat_abs without_head_lem

  pub without_before : (i : ℕ) → 0 < i → i < place_at s j → word_of (without_telegram s st j) i ≡ word_of st i
  unfolding without_telegram
  without_before i p l = word_not_waiting removed (waiting st - 1) i p ∙ word_put_before st (place_at s j) closed closed_fits i l

  pub without_behind : (i : ℕ) → place_at s j ≤ i → i + 8 < place_at s places → word_of (without_telegram s st j) i ≡ word_of st (i + 8)
  unfolding without_telegram word_of place_at places_from
  without_behind i p l =
      let k = i - place_at s j in
      let e : place_at s j + k ≡ i = omega arith in
      let f : place_at s (j + 1) + k ≡ i + 8 = omega arith in
      word_not_waiting removed (waiting st - 1) i (omega arith)
      ∙ (rw e at (word_put_in st (place_at s j) closed closed_fits k (omega (arith, closed_length))))
      ∙ word_front_lem (places_from s st (j + 1)) (replicate 8 (pos 0)) k (omega (arith, later_length))
      ∙ get_or-take (8 * (places - (j + 1))) (drop (place_at s (j + 1)) st) k (pos 0) (omega arith)
      ∙ (rw f at (get_or-drop (place_at s (j + 1)) st k (pos 0)))

  pub without_last_lem : (k : ℕ) → k < 8 → word_of (without_telegram s st j) (place_at s (places - 1) + k) ≡ pos 0
  unfolding without_telegram word_of place_at
  without_last_lem k l =
      let n = 8 * (places - (j + 1)) in
      let e : place_at s j + (n + k) ≡ place_at s (places - 1) + k = omega arith in
      word_not_waiting removed (waiting st - 1) (place_at s (places - 1) + k) (omega arith)
      ∙ (rw e at (word_put_in st (place_at s j) closed closed_fits (n + k) (omega (arith, closed_length))))
      ∙ word_rest (places_from s st (j + 1)) (replicate 8 (pos 0)) n k later_length
      ∙ get_or-replicate 8 k (pos 0) (pos 0) l

  -- what stands behind the places
  pub without_kept : (i : ℕ) → place_at s places ≤ i → word_of (without_telegram s st j) i ≡ word_of st i
  unfolding without_telegram place_at
  without_kept i l = word_not_waiting removed (waiting st - 1) i (omega arith) ∙ word_put_behind st (place_at s j) closed closed_fits i (omega (arith, closed_length))

  pub without_earlier : (k : ℕ) → k < j → telegram_of s (without_telegram s st j) k ≡ telegram_of s st k
  unfolding telegram_of place_at
  without_earlier k l = telegram_same (without_telegram s st j) (place_at s k) st (place_at s k) (λ i m. without_before (place_at s k + i) (omega arith) (omega arith))

  -- a place that closes up has the words of the next
  pub without_closed : (k : ℕ) → j ≤ k → k + 1 < places → Same (without_telegram s st j) (place_at s k) st (place_at s (k + 1))
  unfolding place_at state_length
  without_closed k l m i n = let e : place_at s k + i + 8 ≡ place_at s (k + 1) + i = omega arith in rw e at (without_behind (place_at s k + i) (omega arith) (omega arith))

  pub without_later : (k : ℕ) → j ≤ k → k + 1 < places → telegram_of s (without_telegram s st j) k ≡ telegram_of s st (k + 1)
  unfolding telegram_of
  without_later k l m = telegram_same (without_telegram s st j) (place_at s k) st (place_at s (k + 1)) (without_closed k l m)
