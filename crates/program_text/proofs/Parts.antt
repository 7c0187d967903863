-- How long a front part of a buffer is, and the buffer once a front part was written.
use Prim.Native.Nat.{ℕ, ◌≤◌}
use mathlib.Core.Path.{◌≡◌, sym, ◌∙◌}
use mathlib.Core.List.{List, ◌++◌}
use native.Mathlib.Omega.{arith}
use lib.ListN.{length, take, drop, replicate, length-append, length-replicate}
use lib.Seq.{length-take-le, length_front}

module _ {A : Type 0} (n m : ℕ) (a : A) where
  pub fresh_front : n ≤ m → n ≡ length (take n (replicate m a))
  fresh_front h = sym (length-take-le n (replicate m a) (omega (arith, length-replicate m a)))

  pub fresh_written : (front : List A) → length front ≡ length (take n (replicate m a)) → m ≡ length (front ++ drop n (replicate m a))
  fresh_written front e = sym (length_front (replicate m a) front n e ∙ length-replicate m a)

  -- the part that was written, lent again
  pub front_whole : n ≤ m → (front : List A) → length front ≡ length (take n (replicate m a)) → n ≤ length front
  front_whole h front e = let f = fresh_front h in omega arith

module _ {A : Type 0} (front rest : List A) (n : ℕ) (h : n ≤ length front) where
  pub front_fits : n ≤ length (front ++ rest)
  front_fits = omega (arith, length-append front rest)

  pub front_length : n ≡ length (take n (front ++ rest))
  front_length = sym (length-take-le n (front ++ rest) front_fits)
