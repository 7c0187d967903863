-- How many telegrams of a class wait, and how a change of the state changes that.
use Prim.Native.Nat.{ℕ, suc, ◌+◌, ◌-◌, ◌<◌, ◌≤◌}
use mathlib.Core.Path.{◌≡◌, refl, ap, ◌∙◌, fun_ext}
use mathlib.Core.List.{List}
use mathlib.Core.Bool.{Bool, true, false}
use native.Mathlib.Omega.{arith}
use native.Mathlib.Decide.{dec_lt}
use lib.ListN.{length}
use lib.Dec.{leb, eqb}
use lib.IntN.{ℤ}
use borrow.Author.Tests.{leb-true, le-leb, eqb-true}
use Rattle.sheet.specs.All.{◌and◌}
use Rattle.sheet.specs.Names.{external, internal}
use Rattle.sheet.proofs.All.{and_first, and_second, all-at}
use Rattle.sheet_rules.specs.Fields.{one_if, sum_below, count_below}
use Rattle.sheet_rules.proofs.Fields.{sum_more}
use Rattle.sheet_rules.proofs.Sums.{sum_same, sum_some, count_closed}
use Rattle.machine.specs.declared.Telegram.{Telegram}
use Rattle.machine.specs.Values.{same_word}
use Rattle.machine.specs.State.{places, state_length, waiting, telegram_of, is_internal, class_of, same_class, waiting_like, class_limit, with_telegram, without_telegram}
use Rattle.machine.specs.Valid.{classes_fit}
use Rattle.machine_states.proofs.Frame.{all_true}
use Rattle.machine_states.proofs.Words.{with_waiting, with_last_lem, with_earlier, without_waiting, without_earlier, without_later}
use Rattle.machine_states.proofs.Parts.{same_word_lem}

-- ---- telegrams of one class

pub class-inside : (t : Telegram) → is_internal t ≡ true → class_of t ≡ internal
unfolding class_of
class-inside t q = rw (class_of, q) refl

pub class-outside : (t : Telegram) → is_internal t ≡ false → class_of t ≡ external
unfolding class_of
class-outside t q = rw (class_of, q) refl

module _ (t u : Telegram) (h : same_class t u ≡ true) where
  pub class-words : (t.sender ≡ u.sender) × (t.receiver ≡ u.receiver) × (class_of t ≡ class_of u)
  unfolding same_class
  class-words = (same_word_lem _ _ (and_first _ _ h), same_word_lem _ _ (and_first _ _ (and_second _ _ h)), eqb-true _ _ (and_second _ _ (and_second _ _ h)))

  one_class : (x : Telegram) → same_class t x ≡ same_class u x
  unfolding same_class
  one_class x =
      ap (λ (z : ℤ). same_word z x.sender and same_word t.receiver x.receiver and eqb (class_of t) (class_of x)) class-words.0
      ∙ ap (λ (z : ℤ). same_word u.sender x.sender and same_word z x.receiver and eqb (class_of t) (class_of x)) class-words.1
      ∙ ap (λ (n : ℕ). same_word u.sender x.sender and same_word u.receiver x.receiver and eqb n (class_of x)) class-words.2

  like_one : (s : List ℕ) (st : List ℤ) → waiting_like s st t ≡ waiting_like s st u
  unfolding waiting_like
  like_one s st = ap (count_below (waiting st)) (fun_ext (λ j. one_class (telegram_of s st j)))

-- ---- "At most 16 telegrams may wait for one sender, receiver and class"

abbrev pub AtMost : List ℕ → List ℤ → Type 0
AtMost s st = (t : Telegram) → waiting_like s st t ≤ class_limit

one_true : (b : Bool) → 1 ≤ one_if b → b ≡ true
one_true true h = refl
one_true false h = absurd (omega arith)

module _ (s : List ℕ) (st : List ℤ) where
  -- whatever telegram it is the class of: where none waits, none is counted
  pub at_most : classes_fit s st ≡ true → AtMost s st
  unfolding classes_fit waiting_like count_below
  at_most h t = elim (dec_lt 0 (waiting_like s st t)) [
    | yes q ↦ (let r = sum_some (waiting st) (λ j. one_if (same_class t (telegram_of s st j))) q in let limit = leb-true (waiting_like s st (telegram_of s st r.0)) class_limit (all-at (waiting st) (λ j. leb (waiting_like s st (telegram_of s st j)) class_limit) h r.0 r.1) in omega (arith, limit, like_one t (telegram_of s st r.0) (one_true _ r.2) s st))
    | no q ↦ omega arith
  ]

  pub classes_fit_lem : AtMost s st → classes_fit s st ≡ true
  unfolding classes_fit
  classes_fit_lem h = all_true (waiting st) _ (λ j l. le-leb _ class_limit (h (telegram_of s st j)))

  -- ---- as many, where the same telegrams wait

  pub like_kept : (st' : List ℤ) → waiting st' ≡ waiting st → ((j : ℕ) → telegram_of s st' j ≡ telegram_of s st j) → AtMost s st → AtMost s st'
  unfolding waiting_like
  like_kept st' e h m t = rw (e, fun_ext (λ j. ap (same_class t) (h j))) (m t)

  pub none_like : waiting st ≡ 0 → AtMost s st
  unfolding waiting_like count_below sum_below
  none_like e t = rw e (omega arith)

-- ---- a telegram appended

module _ (s : List ℕ) (st : List ℤ) (t : Telegram) (whole : length st ≡ state_length s) (room : waiting st < places) where
  -- one more of its own class
  with_like : (u : Telegram) → waiting_like s (with_telegram s st t) u ≡ waiting_like s st u + one_if (same_class u t)
  unfolding waiting_like count_below
  with_like u =
      let f : ℕ → ℕ = λ j. one_if (same_class u (telegram_of s (with_telegram s st t) j)) in
      ap (λ (n : ℕ). sum_below n f) (with_waiting s st t whole room)
      ∙ sum_more (waiting st) f
      ∙ ap (λ (n : ℕ). n + f (waiting st)) (sum_same (waiting st) f _ (λ j l. ap (λ x. one_if (same_class u x)) (with_earlier s st t whole room j l)))
      ∙ ap (λ x. waiting_like s st u + one_if (same_class u x)) (with_last_lem s st t whole room)

  pub with_most : AtMost s st → waiting_like s st t < class_limit → AtMost s (with_telegram s st t)
  with_most m l u = go (same_class u t) refl
    where
      go : (b : Bool) → same_class u t ≡ b → waiting_like s (with_telegram s st t) u ≤ class_limit
      go true q = let one : one_if (same_class u t) ≡ 1 = ap one_if q in omega (arith, with_like u, like_one u t q s st)
      go false q = let none : one_if (same_class u t) ≡ 0 = ap one_if q in omega (arith, with_like u, m u)

-- ---- a telegram removed

module _ (s : List ℕ) (st : List ℤ) (j : ℕ) (whole : length st ≡ state_length s) (here : j < waiting st) (limit : waiting st ≤ places) where
  without_like : (u : Telegram) → waiting_like s (without_telegram s st j) u ≤ waiting_like s st u
  unfolding waiting_like
  without_like u =
      let e : suc (waiting st - 1) ≡ waiting st = omega arith in
      let next : (k : ℕ) → k + 1 ≡ suc k = λ k. omega arith in
      rw (without_waiting s st j whole here limit)
      (rw e at (count_closed (waiting st - 1) (λ k. same_class u (telegram_of s st k)) (λ k. same_class u (telegram_of s (without_telegram s st j) k)) j (omega arith)
      (λ k l. ap (same_class u) (without_earlier s st j whole here limit k l))
      (λ k l m. rw next at (ap (same_class u) (without_later s st j whole here limit k l (omega arith))))))

  pub without_most : AtMost s st → AtMost s (without_telegram s st j)
  without_most m u = omega (arith, without_like u, m u)
