-- Laws of counting by the numbers of classes.
use Prim.Native.Nat.{ℕ, ◌+◌, ◌*◌, ◌-◌, ◌<◌, ◌≤◌}
use mathlib.Core.Path.{◌≡◌, refl, sym, ap, ◌∙◌}
use mathlib.Core.List.{List}
use mathlib.Core.Bool.{Bool, true, false}
use native.Mathlib.Omega.{arith}
use native.Mathlib.Decide.{ℕ_discrete}
use lib.ListN.{length, get_or, set, replicate, length-set, get_or-replicate}
use lib.Seq.{get_or-set_same, get_or-set_other}
use lib.Dec.{leb, eqb}
use lib.IntN.{ℤ, pos, negsuc, nat_abs}
use borrow.Author.Tests.{le-leb, lt-leb, eq-eqb, ne_eqb}
use Rattle.sheet.proofs.All.{true_false, and-true, all-at, not_so}
use Rattle.sheet_rules.specs.Fields.{one_if, sum_below, count_below}
use Rattle.sheet_rules.proofs.Fields.{sum_more}
use Rattle.sheet_rules.proofs.Sums.{sum_same, count-on}
use Rattle.machine.specs.declared.Telegram.{Telegram}
use Rattle.machine.specs.Values.{is_below, same_word}
use Rattle.machine.specs.State.{state_length, waiting, telegram_in, telegram_of, is_internal, class_of, same_class, waiting_like, class_limit}
use Rattle.machine.specs.Valid.{classes_fit}
use Rattle.machine_states.proofs.Frame.{all_true}
use Rattle.machine_states.proofs.Parts.{below_abs}
use Rattle.machine_states.proofs.Classes.{class-inside, class-outside, class-words}
use Rattle.engine_store.specs.Layout.{place_in}
use Rattle.engine_store.proofs.Lies.{place_in_lem}
use Rattle.engine_valid_classes.specs.Classes.{EndsFit, class_number}

-- ---- numbers of classes

same_words_lem : (a b : ℤ) (n : ℕ) → is_below a n ≡ true → is_below b n ≡ true → nat_abs a ≡ nat_abs b → same_word a b ≡ true
unfolding is_below
same_words_lem (pos a) (pos b) n h k e = and-true _ _ (le-leb a b (omega arith)) (le-leb b a (omega arith))
same_words_lem (pos a) (negsuc b) n h k e = absurd (true_false k refl)
same_words_lem (negsuc a) b n h k e = absurd (true_false h refl)

module _ (t : Telegram) (f : EndsFit t) where
  pub sender-below : nat_abs t.sender < 64
  sender-below = below_abs _ 64 f.sender

  pub receiver-below : nat_abs t.receiver < 64
  receiver-below = below_abs _ 64 f.receiver

pub number-inside : (t : Telegram) → is_internal t ≡ true → 4096 + nat_abs t.receiver ≡ class_number t
unfolding class_number
number-inside t i = rw (class_number, i) refl

pub number-outside : (t : Telegram) → is_internal t ≡ false → 64 * nat_abs t.sender + nat_abs t.receiver ≡ class_number t
unfolding class_number
number-outside t i = rw (class_number, i) refl

pub number-below : (t : Telegram) → EndsFit t → class_number t < 4160
number-below t f = go (is_internal t) refl
  where
    go : (b : Bool) → is_internal t ≡ b → class_number t < 4160
    go true q = omega (arith, number-inside t q, receiver-below t f)
    go false q = omega (arith, number-outside t q, sender-below t f, receiver-below t f)

abbrev Parts : Telegram → Telegram → Type 0
Parts t u = (nat_abs t.sender ≡ nat_abs u.sender) × (nat_abs t.receiver ≡ nat_abs u.receiver) × (class_of t ≡ class_of u)

-- telegrams of one class have one number, and others have others
pub by_number : (t u : Telegram) → EndsFit t → EndsFit u → same_class t u ≡ eqb (class_number u) (class_number t)
unfolding same_class
by_number t u f g = go (same_class t u) refl
  where
    parts : (a b : Bool) → is_internal t ≡ a → is_internal u ≡ b → class_number u ≡ class_number t → Parts t u
    parts true true i j e =
        let m = number-inside t i in
        let n = number-inside u j in
        (omega (arith, ap nat_abs (f.itself i), ap nat_abs (g.itself j)), omega arith, class-inside t i ∙ sym (class-inside u j))
    parts true false i j e = absurd (omega (arith, number-inside t i, number-outside u j, sender-below u g, receiver-below u g))
    parts false true i j e = absurd (omega (arith, number-outside t i, number-inside u j, sender-below t f, receiver-below t f))
    parts false false i j e =
        let m = number-outside t i in
        let n = number-outside u j in
        let a = receiver-below t f in
        let b = receiver-below u g in
        (omega arith, omega arith, class-outside t i ∙ sym (class-outside u j))

    numbers : (a b : Bool) → is_internal t ≡ a → is_internal u ≡ b → Parts t u → class_number u ≡ class_number t
    numbers true true i j p = omega (arith, number-inside t i, number-inside u j, p.1)
    numbers true false i j p = absurd (omega (arith, class-inside t i, class-outside u j, p.2))
    numbers false true i j p = absurd (omega (arith, class-outside t i, class-inside u j, p.2))
    numbers false false i j p = omega (arith, number-outside t i, number-outside u j, p.0, p.1)

    whole : class_number u ≡ class_number t → same_class t u ≡ true
    whole e = let p = parts (is_internal t) (is_internal u) refl refl e in and-true _ _ (same_words_lem _ _ 64 f.sender g.sender p.0) (and-true _ _ (same_words_lem _ _ 64 f.receiver g.receiver p.1) (eq-eqb _ _ p.2))

    go : (b : Bool) → same_class t u ≡ b → same_class t u ≡ eqb (class_number u) (class_number t)
    go true q = let p = class-words t u q in q ∙ sym (eq-eqb (class_number u) (class_number t) (numbers (is_internal t) (is_internal u) refl refl (ap nat_abs p.0, ap nat_abs p.1, p.2)))
    go false q = q ∙ sym (ne_eqb _ _ (λ e. true_false (whole e) q))

-- ---- counts

module _ (st : List ℤ) where
  abbrev at : ℕ → Telegram
  at j = telegram_in st (place_in (length st) j)

  pub number_is : (j i k : ℕ) → i ≡ place_in (length st) j → k ≡ class_number (telegram_in st i) → k ≡ class_number (at j)
  number_is j i k p e = e ∙ ap (λ (i : ℕ). class_number (telegram_in st i)) p

  -- how many of the first j have the class of number k
  abbrev numbered : ℕ → ℕ → ℕ
  numbered j k = count_below j (λ i. eqb (class_number (at i)) k)

  -- each class's count of the first j
  abbrev pub Counted : ℕ → List ℕ → Type 0
  Counted j counts = (length counts ≡ 4160) × ((k : ℕ) → k < 4160 → (get_or counts k 0 ≡ numbered j k) × (get_or counts k 0 ≤ 16))

  pub counted_none : Counted 0 (replicate 4160 0)
  unfolding count_below sum_below
  counted_none = (refl, λ k l. let e : ◌≡◌ {A = ℕ} (get_or (replicate 4160 0) k 0) 0 = get_or-replicate 4160 k 0 0 l in (e, omega (arith, e)))

  numbered_more : (j k : ℕ) → numbered (j + 1) k ≡ numbered j k + one_if (eqb (class_number (at j)) k)
  unfolding count_below
  numbered_more j k = sum_more j (λ i. one_if (eqb (class_number (at i)) k))

  module _ (n : ℕ) (fit : (j : ℕ) → j < n → EndsFit (at j)) where
    pub counted_more_lem : (j : ℕ) (counts : List ℕ) → j < n → Counted j counts → (k count : ℕ) → k ≡ class_number (at j) → count ≡ get_or counts k 0 → (count ≡ 16 → ⊥) → Counted (j + 1) (set counts k (count + 1))
    counted_more_lem j counts l h k count e c d = (length_kept, each)
      where
        length_kept : length (set counts k (count + 1)) ≡ 4160
        length_kept = length-set counts k (count + 1) ∙ h.0

        inside : k < 4160
        inside = rw e (number-below (at j) (fit j l))

        each : (m : ℕ) → m < 4160 → (get_or (set counts k (count + 1)) m 0 ≡ numbered (j + 1) m) × (get_or (set counts k (count + 1)) m 0 ≤ 16)
        each m b = elim (ℕ_discrete m k) [
          | yes q ↦ (let here : get_or (set counts k (count + 1)) m 0 ≡ count + 1 = rw q (get_or-set_same counts k (count + 1) 0 (rw h.0 inside)) in let one : one_if (eqb (class_number (at j)) m) ≡ 1 = ap one_if (eq-eqb _ _ (sym e ∙ sym q)) in let before = h.1 m b in let same : get_or counts m 0 ≡ count = ap (λ (i : ℕ). get_or counts i 0) q ∙ sym c in (omega (arith, here, one, same, before.0, numbered_more j m), omega (arith, here, same, before.1)))
          | no q ↦ (let other : get_or (set counts k (count + 1)) m 0 ≡ get_or counts m 0 = get_or-set_other counts k m (count + 1) 0 q in let none : one_if (eqb (class_number (at j)) m) ≡ 0 = ap one_if (ne_eqb _ _ (λ x. q (sym x ∙ sym e))) in let before = h.1 m b in (omega (arith, other, none, before.0, numbered_more j m), omega (arith, other, before.1)))
        ]

    -- ---- what the counts say of the state

    module _ (s : List ℕ) (whole : length st ≡ state_length s) (all : n ≡ waiting st) where
      place : (j : ℕ) → telegram_of s st j ≡ at j
      unfolding telegram_of
      place j = ap (telegram_in st) (sym (place_in_lem s (length st) j whole))

      -- so many of the first m are of a class
      like_numbered : (i : ℕ) → i < n → (m : ℕ) → m ≤ n → count_below m (λ j. same_class (telegram_of s st i) (telegram_of s st j)) ≡ numbered m (class_number (at i))
      unfolding count_below
      like_numbered i l m b = sum_same m _ _ (λ j k. ap one_if (ap (λ t. same_class t (telegram_of s st j)) (place i) ∙ ap (same_class (at i)) (place j) ∙ by_number (at i) (at j) (fit i l) (fit j (omega arith))))

      like_all : (i : ℕ) → i < n → waiting_like s st (telegram_of s st i) ≡ numbered n (class_number (at i))
      unfolding waiting_like
      like_all i l = rw (sym all) (like_numbered i l n (omega arith))

      pub few_fit : n ≤ 16 → true ≡ classes_fit s st
      unfolding classes_fit waiting_like count_below sum_below
      few_fit l = sym (all_true (waiting st) _ (λ j k. le-leb (count_below (waiting st) (λ i. same_class (telegram_of s st j) (telegram_of s st i))) class_limit (let c = count-on (λ i. same_class (telegram_of s st j) (telegram_of s st i)) 0 (waiting st) (omega arith) in omega (arith, c.1))))

      pub counted_fit : (j : ℕ) (counts : List ℕ) → j ≤ n → n ≤ j → Counted j counts → true ≡ classes_fit s st
      unfolding classes_fit
      counted_fit j counts l m h = sym (all_true (waiting st) _ (λ i b. let here : i < n = omega arith in let c = h.1 (class_number (at i)) (number-below (at i) (fit i here)) in le-leb (waiting_like s st (telegram_of s st i)) class_limit (let e : j ≡ n = omega arith in omega (arith, like_all i here, c.1, rw e at c.0))))

      pub counted_full : (j : ℕ) (counts : List ℕ) → j < n → Counted j counts → (k : ℕ) → k ≡ class_number (at j) → get_or counts k 0 ≡ 16 → false ≡ classes_fit s st
      unfolding classes_fit
      counted_full j counts l h k e full = sym (not_so (classes_fit s st) (λ fits. true_false (all-at (waiting st) (λ i. leb (waiting_like s st (telegram_of s st i)) class_limit) fits j (omega arith)) (lt-leb (waiting_like s st (telegram_of s st j)) class_limit more)))
        where
          more : 16 < waiting_like s st (telegram_of s st j)
          more =
              let c = h.1 (class_number (at j)) (number-below (at j) (fit j l)) in
              let one : one_if (eqb (class_number (at j)) (class_number (at j))) ≡ 1 = ap one_if (eq-eqb (class_number (at j)) (class_number (at j)) refl) in
              let rest = count-on (λ i. eqb (class_number (at i)) (class_number (at j))) (j + 1) n (omega arith) in
              omega (arith, like_all j l, rest.0, numbered_more j (class_number (at j)), one, c.0, rw e at full)
