-- A sheet with another limit written into its bytes: it agrees with the first in every record but the head's limit, and has that limit.
use Rattle.std.specs.Prelude.{Option, Some, None}
use Prim.Native.Nat.{ℕ, zero, suc, ◌+◌, ◌*◌, ◌/◌, ◌%◌, ◌<◌, ◌≤◌}
use mathlib.Core.Path.{◌≡◌, refl, sym, ap, ◌∙◌}
use mathlib.Core.List.{List}
use mathlib.Core.Bool.{true, false}
use native.Mathlib.Omega.{arith}
use native.Mathlib.Decide.{dec_lt}
use lib.ListN.{length, get_or, set, length-set}
use lib.Seq.{get_or-set_same, get_or-set_other}
use lib.Dec.{leb, eqb, ltb}
use Rattle.sheet.specs.declared.Record.{Record}
use Rattle.sheet.specs.All.{◌and◌}
use Rattle.sheet.specs.Names.{head, step_limit}
use Rattle.sheet.specs.Sheet.{word_at, offset_of, length_of, start_of, pair_right, directory_right, count_of, record_at, record_of}
use Rattle.sheet.proofs.All.{all_same}
use Rattle.sheet.proofs.Sheet.{offset_right, count-right, count_none, count_some, record_present, record_absent, present-below, record_inside}
use Rattle.sheet_rules.specs.Fields.{number_or0}
use Rattle.sheet_limits.specs.ButLimit.{compared, ButLimit, put_number, limit_place, with_limit}
use Rattle.sheet_limits.proofs.Records.{itself}

-- ---- where sections lie

module _ (s : List ℕ) (right : directory_right s ≡ true) where
  head_offset : offset_of s head ≡ 32
  unfolding start_of
  head_offset = offset_right s right 0 (omega arith)

  -- behind a head that is there
  behind-head : 0 < count_of s head → (k : ℕ) → suc k < 8 → 48 ≤ offset_of s (suc k)
  unfolding start_of
  behind-head one zero l = omega (arith, offset_right s right 1 l, head_offset, count-right s head right (omega arith))
  behind-head one (suc k) l = omega (arith, offset_right s right (suc (suc k)) l, behind-head one k (omega arith))

-- ---- two sheets whose bytes differ in the head's f3 alone

module _ (s t : List ℕ) (long : length t ≡ length s) (bytes : (i : ℕ) → (i ≡ 38 → ⊥) → (i ≡ 39 → ⊥) → get_or t i 0 ≡ get_or s i 0) (one : 0 < count_of s head) where
  right : directory_right s ≡ true
  right = (count_some s head 0 one).0

  before : (at : ℕ) → at + 1 < 38 → word_at t at ≡ word_at s at
  before at l = λ q. bytes at (λ e. omega arith) (λ e. omega arith) q + 256 * bytes (at + 1) (λ e. omega arith) (λ e. omega arith) q

  behind : (at : ℕ) → 40 ≤ at → word_at t at ≡ word_at s at
  behind at l = λ q. bytes at (λ e. omega arith) (λ e. omega arith) q + 256 * bytes (at + 1) (λ e. omega arith) (λ e. omega arith) q

  offset_same : (k : ℕ) → k < 8 → offset_of t k ≡ offset_of s k
  offset_same k l = before (4 * k) (omega arith)

  length_same : (k : ℕ) → k < 8 → length_of t k ≡ length_of s k
  length_same k l = before (4 * k + 2) (omega arith)

  start-same : (k : ℕ) → k ≤ 8 → start_of t k ≡ start_of s k
  unfolding start_of
  start-same zero l = refl
  start-same (suc k) l = λ q. offset_same k (omega arith) q + length_same k (omega arith) q

  pair_same : (k : ℕ) → k < 8 → pair_right t k ≡ pair_right s k
  unfolding pair_right
  pair_same k l = λ q. eqb (offset_same k l q) (start-same k (omega arith) q) and eqb (length_same k l q % 16) 0

  directory_same : directory_right t ≡ directory_right s
  unfolding directory_right
  directory_same = λ q. leb (long q) 65535 and all_same 8 (pair_right t) (pair_right s) pair_same q and eqb (start-same 8 (omega arith) q) (long q)

  count_same : (k : ℕ) → count_of t k ≡ count_of s k
  unfolding count_of
  count_same k = elim (dec_lt k 8) [
    | yes l ↦ (λ q. elim (directory_same q and ltb k 8) [ true ↦ length_same k l q / 16 | false ↦ 0 ])
    | no l ↦ count_none t k (omega arith) ∙ sym (count_none s k (omega arith))
  ]

  record_behind : (at : ℕ) → 40 ≤ at → record_at t at ≡ record_at s at
  unfolding record_at
  record_behind at l = λ q. record { f0 = behind at l q; f1 = behind (at + 2) (omega arith) q; f2 = behind (at + 4) (omega arith) q; f3 = behind (at + 6) (omega arith) q; f4 = behind (at + 8) (omega arith) q; f5 = behind (at + 10) (omega arith) q; f6 = behind (at + 12) (omega arith) q; f7 = behind (at + 14) (omega arith) q }

  -- the head but for its limit
  head_same : (at : ℕ) → at ≡ 32 → compared head (Some (record_at t at)) ≡ compared head (Some (record_at s at))
  unfolding compared record_at
  head_same at e = λ q. Some (record { f0 = before at (omega arith) q; f1 = before (at + 2) (omega arith) q; f2 = before (at + 4) (omega arith) q; f3 = 0; f4 = behind (at + 8) (omega arith) q; f5 = behind (at + 10) (omega arith) q; f6 = behind (at + 12) (omega arith) q; f7 = behind (at + 14) (omega arith) q })

  place_same : (k n : ℕ) → k < 8 → compared k (Some (record_at t (offset_of s k + 16 * n))) ≡ compared k (Some (record_at s (offset_of s k + 16 * n)))
  place_same zero zero l = head_same _ (omega (arith, head_offset s right))
  place_same zero (suc n) l = ap (λ r. compared head (Some r)) (record_behind _ (omega (arith, head_offset s right)))
  place_same (suc k) n l = ap (λ r. compared (suc k) (Some r)) (record_behind _ (omega (arith, behind-head s right one k l)))

  record_same : (k n : ℕ) → compared k (record_of t k n) ≡ compared k (record_of s k n)
  record_same k n = elim (dec_lt n (count_of s k)) [
    | yes l ↦ (let k8 : k < 8 = (count_some s k n l).1 in
        ap (compared k) (record_present t k n (rw (count_same k) l)) ∙ ap (λ o. compared k (Some (record_at t (o + 16 * n)))) (offset_same k k8) ∙ place_same k n k8 ∙ ap (compared k) (sym (record_present s k n l)))
    | no l ↦ ap (compared k) (record_absent t k n (rw (count_same k) (omega arith)) ∙ sym (record_absent s k n (omega arith)))
  ]

  but_limit : ButLimit s t
  but_limit = record { directory = sym directory_same; counts = λ k. sym (count_same k); records = λ k n. sym (record_same k n) }

-- ---- two bytes of the head

module _ (s : List ℕ) (one : 0 < count_of s head) where
  at_head : limit_place s ≡ 38
  at_head = omega (arith, head_offset s (count_some s head 0 one).0)

  module _ (x y : ℕ) where
    abbrev changed : List ℕ
    changed = set (set s 38 x) 39 y

    set_alike : ButLimit s changed
    set_alike = but_limit s changed (length-set (set s 38 x) 39 y ∙ length-set s 38 x) (λ i a b. get_or-set_other (set s 38 x) 39 i y 0 b ∙ get_or-set_other s 38 i x 0 a) one

    set_word : word_at changed 38 ≡ x + 256 * y
    set_word =
        let inside : 48 ≤ length s = omega (arith, head_offset s (count_some s head 0 one).0, record_inside s head 0 one) in
        let l = get_or-set_same s 38 x 0 (omega arith) in
        let m = get_or-set_same (set s 38 x) 39 y 0 (rw (length-set s 38 x) (omega arith)) in
        omega (arith, get_or-set_other (set s 38 x) 39 38 y 0 (λ d. omega arith), l, m)

    set_limit : number_or0 (record_of changed head 0) step_limit ≡ x + 256 * y
    unfolding number_or0 record_at
    set_limit =
        let there : 0 < count_of changed head = rw (← set_alike.counts head) one in
        let at : offset_of changed head + 16 * 0 + 6 ≡ 38 = omega (arith, head_offset changed (count_some changed head 0 there).0) in
        rw (record_present changed head 0 there, at) set_word

  -- a number's
  module _ (n : ℕ) where
    put_alike : ButLimit s (put_number s 38 n)
    unfolding put_number
    put_alike = set_alike _ _

    put_limit : number_or0 (record_of (put_number s 38 n) head 0) step_limit ≡ n
    unfolding put_number
    put_limit = set_limit _ _ ∙ omega arith

-- ---- a sheet with that limit

module _ (n : ℕ) (s : List ℕ) where
  pub with_limit_lem : ButLimit s (with_limit n s)
  unfolding with_limit
  with_limit_lem = go (record_of s head 0) refl
    where
      go : (f : Option Record) → record_of s head 0 ≡ f → ButLimit s (elim f [ Some r ↦ put_number s (limit_place s) n | None ↦ s ])
      go (Some r) e = (let one : 0 < count_of s head = present-below s head 0 r e in rw (at_head s one) (put_alike s one n))
      go None e = itself s

  pub has_limit : (r : Record) → record_of s head 0 ≡ Some r → number_or0 (record_of (with_limit n s) head 0) step_limit ≡ n
  unfolding with_limit
  has_limit r e = let one : 0 < count_of s head = present-below s head 0 r e in rw (with_limit, e, at_head s one) (put_limit s one n)
