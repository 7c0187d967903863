-- A telegram removed: the words behind it move eight down, and what was the last place is zero.
use Prim.Native.Nat.{ℕ, ◌+◌, ◌-◌, ◌/◌, ◌%◌, ◌<◌, ◌≤◌}
use mathlib.Core.Path.{◌≡◌, refl, sym, ap, ◌∙◌}
use mathlib.Core.List.{List}
use mathlib.Core.Bool.{true}
use native.Mathlib.Nat.{div-add-mod', mod-lt}
use native.Mathlib.Omega.{arith}
use native.Mathlib.Decide.{dec_lt, ℕ_discrete}
use Rattle.std.specs.List.{CopiedTo, SameBelow, SameFrom}
use lib.ListN.{length, set, replicate, length-set}
use lib.Seq.{ext_get_or}
use lib.IntN.{ℤ, pos, negsuc}
use borrow.Author.Tests.{eqb-true}
use Rattle.sheet.proofs.All.{true_false, all-at}
use Rattle.machine.specs.Values.{is_zero}
use Rattle.machine.specs.State.{places, place_at, state_length, word_of, waiting, put_words, without_telegram}
use Rattle.machine.specs.Valid.{zero_words, OfSheet}
use Rattle.machine_states.proofs.Words.{length-put, word_put_in, word_put_before, word_put_behind, word_set, word_set_other, without_length, without_head_lem, without_before, without_behind, without_last_lem, without_kept}
use Rattle.machine_states.proofs.Parts.{waiting_limit, unused_of}
use Rattle.engine_rows.proofs.Laws.{word_zeros}

-- the words from `at` on, up to number i, are those eight further on
pub record Moved (old : List ℤ) (at i : ℕ) (st : List ℤ) : Type 0 where
  pub before : (k : ℕ) → k < at → word_of st k ≡ word_of old k
  pub moved : (k : ℕ) → at ≤ k → k < i → word_of st k ≡ word_of old (k + 8)
  pub behind : (k : ℕ) → i ≤ k → word_of st k ≡ word_of old k

pub moved_copied : (old st : List ℤ) (at i n : ℕ) → i ≡ at + n → CopiedTo old st (at + 8) at n → SameBelow old st at → SameFrom old st (at + n) → Moved old at i st
unfolding word_of
moved_copied old st at i n q copied below from = record {
  before = λ k l. below k (pos 0) l;
  moved = λ k l m. (let e : at + 8 + (k - at) ≡ k + 8 = omega arith in rw e at (copied k (pos 0) l (omega arith)));
  behind = λ k l. from k (pos 0) (omega arith);
}

zero_word : (z : ℤ) → is_zero z ≡ true → z ≡ pos 0
unfolding is_zero
zero_word (pos k) h = ap pos (eqb-true k 0 h)
zero_word (negsuc k) h = absurd (true_false h refl)

-- "unused ones zero"
unused_word : (s : List ℕ) (st : List ℤ) → OfSheet s st → (k : ℕ) → place_at s (waiting st) ≤ k → k < place_at s places → word_of st k ≡ pos 0
unfolding place_at zero_words
unused_word s st o k l m =
    let x = k - place_at s 0 in
    let d = div-add-mod' x 8 in
    let r : x % 8 < 8 = mod-lt x (omega arith) in
    let e : place_at s (x / 8) + 0 + x % 8 ≡ k = omega arith in
    rw e at (zero_word _ (all-at 8 _ (unused_of s st o (x / 8) (omega arith) (omega arith)) (x % 8) r))

module _ (s : List ℕ) (old : List ℤ) (o : OfSheet s old) (j n at end : ℕ) (st : List ℤ) (here : j < waiting old) (count : n ≡ waiting old - 1) (from : at ≡ place_at s j) (to : end ≡ place_at s n) (whole : length st ≡ length old) (h : Moved old at end st) where
  limit : waiting old ≤ places
  limit = waiting_limit s old o

  abbrev cleared : List ℤ
  cleared = put_words st end (replicate 8 (pos 0))

  last_fits : end + 8 ≤ length st
  unfolding place_at state_length
  last_fits = omega (arith, limit, o.whole)

  cleared_length : length cleared ≡ length st
  cleared_length = length-put st end (replicate 8 (pos 0)) last_fits

  -- in the places from there on
  left_zero_lem : (k : ℕ) → end ≤ k → k < place_at s places → word_of cleared k ≡ pos 0
  unfolding place_at
  left_zero_lem k l m = elim (dec_lt k (end + 8)) [
    | yes q ↦ (let e : end + (k - end) ≡ k = omega arith in rw e at (word_put_in st end (replicate 8 (pos 0)) last_fits (k - end) (omega arith) ∙ word_zeros 8 (k - end) (omega arith)))
    | no q ↦ word_put_behind st end (replicate 8 (pos 0)) last_fits k (omega arith) ∙ h.behind k (omega arith) ∙ unused_word s old o k (omega (arith, limit)) m
  ]

  right_zero : (k : ℕ) → end ≤ k → k < place_at s places → word_of (without_telegram s old j) k ≡ pos 0
  unfolding place_at
  right_zero k l m = elim (dec_lt (k + 8) (place_at s places)) [
    | yes q ↦ without_behind s old j o.whole here limit k (omega arith) q ∙ unused_word s old o (k + 8) (omega arith) q
    | no q ↦ (let last = place_at s (places - 1) in let e : last + (k - last) ≡ k = omega arith in rw e at (without_last_lem s old j o.whole here limit (k - last) (omega arith)))
  ]

  -- behind the places
  kept : (k : ℕ) → place_at s places ≤ k → word_of cleared k ≡ word_of (without_telegram s old j) k
  unfolding place_at
  kept k l = word_put_behind st end (replicate 8 (pos 0)) last_fits k (omega (arith, limit)) ∙ h.behind k (omega (arith, limit)) ∙ sym (without_kept s old j o.whole here limit k l)

  word : (k : ℕ) → (k ≡ 0 → ⊥) → word_of cleared k ≡ word_of (without_telegram s old j) k
  unfolding place_at
  word k z = elim (dec_lt k end) [
    | no q ↦ elim (dec_lt k (place_at s places)) [
      | yes p ↦ left_zero_lem k (omega arith) p ∙ sym (right_zero k (omega arith) p)
      | no p ↦ kept k (omega arith)
    ]
    | yes q ↦ word_put_before st end (replicate 8 (pos 0)) last_fits k q ∙ elim (dec_lt k at) [
      | yes p ↦ h.before k p ∙ sym (without_before s old j o.whole here limit k (omega arith) (omega arith))
      | no p ↦ h.moved k (omega arith) (omega arith) ∙ sym (without_behind s old j o.whole here limit k (omega arith) (omega (arith, limit)))
    ]
  ]

  pub removed : set cleared 0 (pos n) ≡ without_telegram s old j
  unfolding word_of
  removed = ext_get_or (pos 0) _ _ (length-set cleared 0 (pos n) ∙ cleared_length ∙ whole ∙ sym (without_length s old j o.whole here limit)) each
    where
      each : (k : ℕ) → k < length (set cleared 0 (pos n)) → word_of (set cleared 0 (pos n)) k ≡ word_of (without_telegram s old j) k
      each k l = elim (ℕ_discrete k 0) [
        | yes q ↦ rw q (word_set cleared 0 (pos n) (omega (arith, length-set cleared 0 (pos n))) ∙ ap pos count ∙ sym (without_head_lem s old j o.whole here limit))
        | no q ↦ word_set_other cleared 0 k (pos n) q ∙ word k q
      ]
