-- Words put one behind the other come to one row of words.
use Prim.Native.Nat.{ℕ, ◌+◌, ◌≤◌}
use mathlib.Core.Path.{◌≡◌, sym, ap, ◌∙◌}
use mathlib.Core.List.{List, [], ◌++◌, append_assoc, append-nil}
use native.Mathlib.Omega.{arith}
use lib.ListN.{length, take, drop, replicate, length-append, length-replicate, take-append-drop, replicate-append-replicate}
use lib.Seq.{length-take-le, take_at, drop_at, drop-append-add, drop-drop}
use lib.IntN.{ℤ, pos}
use Rattle.machine.specs.State.{put_words}

pub put_none : (st : List ℤ) (at : ℕ) → put_words st at [] ≡ st
unfolding put_words
put_none st at =
    let e : at + 0 ≡ at = omega arith in
    ap (λ (r : List ℤ). r ++ drop (at + 0) st) (append-nil (take at st)) ∙ ap (λ (k : ℕ). take at st ++ drop k st) e ∙ take-append-drop at st

module _ (st : List ℤ) (at : ℕ) (xs ys : List ℤ) (fit : at + length xs ≤ length st) where
  abbrev front : List ℤ
  front = take at st ++ xs

  abbrev rest : List ℤ
  rest = drop (at + length xs) st

  front_length : length front ≡ at + length xs
  front_length = length-append (take at st) xs ∙ ap (λ (n : ℕ). n + length xs) (length-take-le at st (omega arith))

  rest-behind : drop (at + length xs + length ys) (front ++ rest) ≡ drop (at + length (xs ++ ys)) st
  rest-behind =
      let n : at + length xs + length ys ≡ length front + length ys = omega (arith, front_length) in
      let m : at + length xs + length ys ≡ at + length (xs ++ ys) = omega (arith, length-append xs ys) in
      ap (λ (k : ℕ). drop k (front ++ rest)) n ∙ drop-append-add front rest (length ys) ∙ drop-drop (length ys) (at + length xs) st ∙ ap (λ (k : ℕ). drop k st) m

  pub put_behind : put_words (put_words st at xs) (at + length xs) ys ≡ put_words st at (xs ++ ys)
  unfolding put_words
  put_behind =
      ap (λ (r : List ℤ). r ++ ys ++ drop (at + length xs + length ys) (front ++ rest)) (take_at front rest (at + length xs) front_length)
      ∙ ap (λ (r : List ℤ). front ++ ys ++ r) rest-behind
      ∙ ap (λ (r : List ℤ). r ++ drop (at + length (xs ++ ys)) st) (append_assoc (take at st) xs ys)

  -- words are put behind those that were put before
  pub put_more : (st' st'' : List ℤ) (i : ℕ) → i ≡ at + length xs → st' ≡ put_words st at xs → st'' ≡ put_words st' i ys → st'' ≡ put_words st at (xs ++ ys)
  put_more st' st'' i e h k = k ∙ ap (λ (r : List ℤ). put_words r i ys) h ∙ ap (λ (n : ℕ). put_words (put_words st at xs) n ys) e ∙ put_behind

abbrev zeros : ℕ → List ℤ
zeros n = replicate n (pos 0)

pub put_zeros : (a b : ℕ) (xs : List ℤ) → put_words (replicate (a + (length xs + b)) (pos 0)) a xs ≡ replicate a (pos 0) ++ xs ++ replicate b (pos 0)
unfolding put_words
put_zeros a b xs =
    let whole = sym (replicate-append-replicate a (length xs + b) (pos 0)) in
    let n : a + length xs ≡ length (zeros a) + length xs = omega (arith, length-replicate a (pos 0)) in
    let behind : drop (a + length xs) (zeros a ++ zeros (length xs + b)) ≡ zeros b =
    ap (λ (k : ℕ). drop k (zeros a ++ zeros (length xs + b))) n
    ∙ drop-append-add (zeros a) (zeros (length xs + b)) (length xs)
    ∙ ap (drop (length xs)) (sym (replicate-append-replicate (length xs) b (pos 0)))
    ∙ drop_at (zeros (length xs)) (zeros b) (length xs) (length-replicate (length xs) (pos 0)) in
    ap (λ (r : List ℤ). take a r ++ xs ++ drop (a + length xs) r) whole
    ∙ ap (λ (r : List ℤ). r ++ xs ++ drop (a + length xs) (zeros a ++ zeros (length xs + b))) (take_at (zeros a) (zeros (length xs + b)) a (length-replicate a (pos 0)))
    ∙ ap (λ (r : List ℤ). zeros a ++ xs ++ r) behind
