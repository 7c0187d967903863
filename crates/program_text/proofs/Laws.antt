-- Texts one behind another, and how many digits a number has.
use Prim.Native.Nat.{ℕ, zero, suc, ◌+◌, ◌*◌, ◌/◌, ◌%◌, ◌≤◌, ◌<◌}
use native.Mathlib.Omega.{arith}
use native.Mathlib.Numerals.{add-one}
use mathlib.Core.Path.{◌≡◌, refl, sym, ap, ◌∙◌}
use mathlib.Core.Bool.{Bool, true, false}
use mathlib.Core.List.{List, [], ◌∷◌, ◌++◌, append_assoc}
use lib.ListN.{length, take, drop, set, length-append}
use lib.Seq.{length-take-le, set_split, append_snoc, take_at, drop-append-add, drop-drop, take-length, paste, paste-zero}
use lib.Dec.{ltb}
use borrow.Author.Tests.{ltb-true, ltb-false, lt-ltb, le-ltb, le-leb, lt-leb}
use lib.IntN.{ℤ, pos, negsuc, nat_abs}
use lib.Signed.{lt_z}
use mir.Syntax.{w32}
use mir.Val.{SFits, of_z, to_z}
use mir.ValLaws.{to_z-of_z}
use Rattle.program_text.specs.Decimal.{digits, decimal, signed, placed, Put, place_with_room}

-- ---- placed

pub placed_one : (xs : List ℕ) (at b : ℕ) → at < length xs → set xs at b ≡ placed xs at (b ∷ [])
unfolding placed
placed_one xs at b h = set_split xs at b h ∙ sym (append_snoc (take at xs) b (drop (suc at) xs)) ∙ ap (λ k. take at xs ++ (b ∷ []) ++ drop k xs) (sym (add-one at))

pub placed-all : (xs : List ℕ) (at : ℕ) (t : List ℕ) (i : ℕ) → i ≡ length t → paste xs at t i ≡ placed xs at t
unfolding placed
placed-all xs at t i e = rw e (ap (λ u. take at xs ++ u ++ drop (at + length t) xs) (take-length t))

module _ (xs : List ℕ) (at : ℕ) (t u : List ℕ) (fit : at + length t ≤ length xs) where
  front : length (take at xs ++ t) ≡ at + length t
  front = length-append (take at xs) t ∙ ap (λ k. k + length t) (length-take-le at xs (omega arith))

  placed_more_lem : placed (placed xs at t) (at + length t) u ≡ placed xs at (t ++ u)
  unfolding placed
  placed_more_lem =
      let p = take at xs ++ t in
      let k = at + length t in
      ap (λ q. q ++ u ++ drop (k + length u) (p ++ drop k xs)) (take_at p (drop k xs) k front)
      ∙ ap (λ q. p ++ u ++ q) (ap (λ m. drop (m + length u) (p ++ drop k xs)) (sym front) ∙ drop-append-add p (drop k xs) (length u) ∙ drop-drop (length u) k xs)
      ∙ ap (λ q. q ++ drop (k + length u) xs) (append_assoc (take at xs) t u)
      ∙ ap (λ m. take at xs ++ (t ++ u) ++ drop m xs) (let e : at + length t + length u ≡ at + length (t ++ u) = omega (arith, length-append t u) in e)

  put_more : {ys zs : List ℕ} {m r : ℕ} → Put xs at t ys m → Put ys m u zs r → Put xs at (t ++ u) zs r
  put_more {ys} {zs} {m} {r} p q = record {
    text = q.text ∙ ap (λ k. placed ys k u) p.end ∙ ap (λ y. placed y (at + length t) u) p.text ∙ placed_more_lem;
    end = omega (arith, p.end, q.end, length-append t u);
  }

-- a text behind a text
pub put_then : {xs ys zs t u : List ℕ} {at m r : ℕ} → Put xs at t ys m → m ≤ length xs → Put ys m u zs r → Put xs at (t ++ u) zs r
put_then {xs} {ys} {zs} {t} {u} {at} {m} {r} p l q = put_more xs at t u (omega (arith, p.end)) p q

-- no text
pub put_none : (xs : List ℕ) (at : ℕ) → Put xs at [] xs at
unfolding placed
put_none xs at = record { text = paste-zero xs at xs; end = omega arith }

-- ---- digits

digits-one : (k n : ℕ) → n < 10 → digits (suc k) n ≡ (48 + n) ∷ []
unfolding digits
digits-one k n h = rw (digits, lt-ltb n 10 h) refl

digits_more : (k n : ℕ) → 10 ≤ n → digits (suc k) n ≡ digits k (n / 10) ++ ((48 + n % 10) ∷ [])
unfolding digits
digits_more k n h = rw (digits, le-ltb n 10 h) refl

length_step : (k n : ℕ) → length (digits k (n / 10)) ≤ k → (b : Bool) → ltb n 10 ≡ b → length (digits (suc k) n) ≤ suc k
length_step k n h true e = rw (digits-one k n (ltb-true _ _ e)) (omega arith)
length_step k n h false e = rw (digits_more k n (ltb-false _ _ e)) (simp length-append (omega arith))

pub digits_length : (k n : ℕ) → length (digits k n) ≤ k
unfolding digits
digits_length zero n = omega arith
digits_length (suc k) n = length_step k n (digits_length k (n / 10)) (ltb n 10) refl

-- 10 to the power k
abbrev below : ℕ → ℕ
below zero = 1
below (suc k) = 10 * below k

-- more digits than are enough change nothing
enough_step : (k n : ℕ) → (10 ≤ n → digits (suc k) (n / 10) ≡ digits k (n / 10)) → (b : Bool) → ltb n 10 ≡ b → digits (suc (suc k)) n ≡ digits (suc k) n
enough_step k n h true e = digits-one (suc k) n (ltb-true _ _ e) ∙ sym (digits-one k n (ltb-true _ _ e))
enough_step k n h false e = digits_more (suc k) n (ltb-false _ _ e) ∙ ap (λ t. t ++ ((48 + n % 10) ∷ [])) (h (ltb-false _ _ e)) ∙ sym (digits_more k n (ltb-false _ _ e))

digits_enough : (k n : ℕ) → n < below (suc k) → digits (suc (suc k)) n ≡ digits (suc k) n
digits_enough zero n l = enough_step zero n (λ h. absurd (omega arith)) (ltb n 10) refl
digits_enough (suc k) n l = enough_step (suc k) n (λ h. digits_enough k (n / 10) (omega arith)) (ltb n 10) refl

pub decimal-one : (n : ℕ) → n < 10 → decimal n ≡ (48 + n) ∷ []
unfolding decimal
decimal-one n h = digits-one 19 n h

module _ (n : ℕ) (long : 10 ≤ n) (fits : n < 18446744073709551616) where
  nineteen : digits 20 (n / 10) ≡ digits 19 (n / 10)
  nineteen = digits_enough 18 (n / 10) (omega arith)

  pub decimal_more : decimal n ≡ decimal (n / 10) ++ ((48 + n % 10) ∷ [])
  unfolding decimal
  decimal_more = digits_more 19 n long ∙ ap (λ t. t ++ ((48 + n % 10) ∷ [])) (sym nineteen)

  pub decimal_room : length (decimal (n / 10)) ≤ 19
  unfolding decimal
  decimal_room = rw nineteen (digits_length 19 (n / 10))

-- ---- signed numbers

module _ (z : ℤ) (h : SFits w32 z) where
  pub back : to_z w32 (of_z w32 z) ≡ z
  back = to_z-of_z w32 z h

pub signed_below : (z : ℤ) → lt_z z (pos 0) ≡ true → signed z ≡ (45 ∷ []) ++ decimal (nat_abs z)
unfolding signed
signed_below (pos n) e = absurd (omega (arith, ltb-true n 0 e))
signed_below (negsuc n) e = refl

pub signed_other : (z : ℤ) → lt_z z (pos 0) ≡ false → signed z ≡ decimal (nat_abs z)
unfolding signed
signed_other (pos n) e = refl
signed_other (negsuc n) e = absurd (omega (arith, ltb-false 0 1 e))

-- ---- room

module _ (size at room : ℕ) where
  pub room_there : at + room ≤ size → at ≡ place_with_room size at room
  unfolding place_with_room
  room_there h = rw (place_with_room, le-leb (at + room) size h) refl

  pub room_made : size < at + room → 0 ≡ place_with_room size at room
  unfolding place_with_room
  room_made h = rw (place_with_room, lt-leb (at + room) size h) refl
