-- Answers in eleven words.
use Rattle.std.specs.Prelude.{Option, Some, None}
use Prim.Native.Nat.{ℕ, suc, ◌+◌, ◌<◌, ◌≤◌}
use mathlib.Core.Path.{◌≡◌, refl, sym, ap, ◌∙◌}
use mathlib.Core.List.{List, [], ◌∷◌, ◌++◌}
use mathlib.Core.Bool.{true, false, true≢false}
use native.Mathlib.Omega.{arith}
use lib.ListN.{length, set, take, drop, length-set, length-append}
use lib.Seq.{length-take-le, take_at, sets-eq}
use lib.IntN.{ℤ, pos, negsuc, nat_abs}
use mir.Syntax.{w32}
use mir.Val.{to_z}
use mir.ValLaws.{to_z_pos}
use borrow.Author.Tests.{ltb-true, lt-ltb}
use Rattle.machine.specs.declared.Telegram.{Telegram}
use Rattle.machine.specs.declared.Answer.{Answer}
use Rattle.machine.specs.Values.{is_below, is_zero}
use Rattle.machine.specs.State.{word_of, telegram_in, put_words}
use Rattle.machine_states.proofs.Words.{word_rest, word_put_in}
use Rattle.machine_lists.specs.Words.{words_of_answer, handed_words, handed_in, answer_words, number_below, answer_in}

-- ---- eleven words

eight : (h : Option Telegram) → length (handed_words h) ≡ 8
unfolding handed_words
eight None = refl
eight (Some t) = refl

pub answer_length : (a : Answer) → length (answer_words a) ≡ words_of_answer
answer_length a = ap (λ n. suc (suc (suc n))) (eight a.handed)

module _ (l : List ℤ) (at : ℕ) where
  three_more : (x y z : ℤ) (ws : List ℤ) → at + 3 + length ws ≤ length l → put_words (set (set (set l at x) (at + 1) y) (at + 2) z) (at + 3) ws ≡ put_words l at (x ∷ y ∷ z ∷ ws)
  unfolding put_words
  three_more x y z ws h =
      let e1 : at + 1 ≡ suc at = omega arith in
      let e2 : at + 2 ≡ suc (suc at) = omega arith in
      let e3 : at + 3 ≡ suc (suc (suc at)) = omega arith in
      rw (e1, e2, e3) (sym (sets-eq ws (set (set (set l at x) (suc at) y) (suc (suc at)) z) (suc (suc (suc at))) (simp length-set (omega arith))) ∙ sets-eq (x ∷ y ∷ z ∷ ws) l at (omega arith))

  pub front_put : (ws : List ℤ) (n : ℕ) → at ≤ length l → at + length ws ≡ n → take n (put_words l at ws) ≡ take at l ++ ws
  unfolding put_words
  front_put ws n h e = take_at (take at l ++ ws) (drop (at + length ws) l) n (length-append (take at l) ws ∙ ap (λ k. k + length ws) (length-take-le at l h) ∙ e)

-- number, steps and dropped are stored, then what is handed
module _ (l : List ℤ) (at : ℕ) (a : Answer) where
  abbrev stored : List ℤ
  stored = set (set (set l at (to_z w32 a.number)) (at + 1) (to_z w32 a.steps)) (at + 2) (to_z w32 a.dropped)

  pub answer_put : at + words_of_answer ≤ length l → a.number < 2147483648 → a.steps < 2147483648 → a.dropped < 2147483648 → (l' ws : List ℤ) → l' ≡ put_words stored (at + 3) ws → ws ≡ handed_words a.handed → l' ≡ put_words l at (answer_words a)
  answer_put h n k d l' ws e q =
      e
      ∙ ap (put_words stored (at + 3)) q
      ∙ three_more l at (to_z w32 a.number) (to_z w32 a.steps) (to_z w32 a.dropped) (handed_words a.handed) (omega (arith, eight a.handed))
      ∙ ap (λ x. put_words l at (x ∷ to_z w32 a.steps ∷ to_z w32 a.dropped ∷ handed_words a.handed)) (to_z_pos w32 a.number n)
      ∙ ap (λ y. put_words l at (pos a.number ∷ y ∷ to_z w32 a.dropped ∷ handed_words a.handed)) (to_z_pos w32 a.steps k)
      ∙ ap (λ z. put_words l at (pos a.number ∷ pos a.steps ∷ z ∷ handed_words a.handed)) (to_z_pos w32 a.dropped d)

-- ---- what was handed outside, by an answer's words

module _ (ws : List ℤ) (at : ℕ) where
  pub handed_none : is_zero (word_of ws at) ≡ true → handed_in ws at ≡ None
  handed_none h = ap (λ b. elim b as (λ b. Option Telegram) [ true ↦ None | false ↦ Some (telegram_in ws at) ]) h

  pub handed_one : is_zero (word_of ws at) ≡ false → handed_in ws at ≡ Some (telegram_in ws at)
  handed_one h = ap (λ b. elim b as (λ b. Option Telegram) [ true ↦ None | false ↦ Some (telegram_in ws at) ]) h

-- ---- an answer by its words

pub below-there : (n : ℕ) (z : ℤ) → is_below z n ≡ true → nat_abs z ≡ number_below n z
below-there n z h = sym (ap (λ b. elim b as (λ b. ℕ) [ true ↦ nat_abs z | false ↦ 0 ]) h)

pub below_less : (n : ℕ) (z : ℤ) → is_below z n ≡ true → nat_abs z < n
unfolding is_below
below_less n (pos k) h = ltb-true k n h
below_less n (negsuc k) h = absurd (true≢false (sym h))

number_back_lem : (n k : ℕ) (z : ℤ) → z ≡ pos k → k < n → number_below n z ≡ k
unfolding is_below
number_back_lem n k z e l = ap (number_below n) e ∙ sym (below-there n (pos k) (lt-ltb k n l))

-- among a telegram's words its sender is not: 1 stands there
abbrev pub Marked : Option Telegram → Type 0
Marked None = Unit {0}
Marked (Some t) = t.sender ≡ pos 1

module _ (ws : List ℤ) (at : ℕ) where
  handed_back : (h : Option Telegram) → ((k : ℕ) → k < 8 → word_of ws (at + k) ≡ word_of (handed_words h) k) → Marked h → handed_in ws at ≡ h
  unfolding handed_words telegram_in word_of is_zero
  handed_back None w m = let e : at + 0 ≡ at = omega arith in handed_none ws at (ap is_zero (rw e at (w 0 (omega arith))))
  handed_back (Some t) w m =
      let e : at + 0 ≡ at = omega arith in
      let first = rw e at (w 0 (omega arith)) in
      handed_one ws at (ap is_zero first)
      ∙ ap Some (λ i. record {
        sender = (first ∙ sym m) i;
        receiver = w 1 (omega arith) i;
        port = w 2 (omega arith) i;
        name = w 3 (omega arith) i;
        d0 = w 4 (omega arith) i;
        d1 = w 5 (omega arith) i;
        d2 = w 6 (omega arith) i;
        d3 = w 7 (omega arith) i;
      })

-- an answer that was put is read again, where its numbers are those of code and the sender of what it handed outside is 1
module _ (l : List ℤ) (at : ℕ) (a : Answer) (fit : at + words_of_answer ≤ length l) where
  abbrev put : List ℤ
  put = put_words l at (answer_words a)

  put_word : (k : ℕ) → k < words_of_answer → word_of put (at + k) ≡ word_of (answer_words a) k
  put_word k h = word_put_in l at (answer_words a) (omega (arith, answer_length a)) k (omega (arith, answer_length a))

  put_handed : (k : ℕ) → k < 8 → word_of put (at + 3 + k) ≡ word_of (handed_words a.handed) k
  put_handed k h =
      let e : at + 3 + k ≡ at + (3 + k) = omega arith in
      rw e (put_word (3 + k) (omega arith) ∙ word_rest (pos a.number ∷ pos a.steps ∷ pos a.dropped ∷ []) (handed_words a.handed) 3 k refl)

  pub answer_back : a.number < 256 → a.steps < 2147483648 → a.dropped < 256 → Marked a.handed → answer_in put at ≡ a
  unfolding word_of
  answer_back n k d m =
      let e : at + 0 ≡ at = omega arith in
      λ i. record {
        number = number_back_lem 256 a.number (word_of put at) (rw e at (put_word 0 (omega arith))) n i;
        steps = number_back_lem 2147483648 a.steps (word_of put (at + 1)) (put_word 1 (omega arith)) k i;
        dropped = number_back_lem 256 a.dropped (word_of put (at + 2)) (put_word 2 (omega arith)) d i;
        handed = handed_back put (at + 3) a.handed put_handed m i;
      }
