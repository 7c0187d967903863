-- How many of a class are among the telegrams that are looked at.
use Prim.Native.Nat.{ℕ, ◌+◌, ◌*◌, ◌-◌, ◌<◌, ◌≤◌}
use mathlib.Core.Path.{◌≡◌, refl, sym, ap, ◌∙◌}
use mathlib.Core.List.{List}
use mathlib.Core.Bool.{beq, Bool, true, false}
use native.Mathlib.Omega.{arith}
use native.Mathlib.Decide.{ℕ_discrete}
use lib.ListN.{length}
use lib.Dec.{leb, eqb}
use lib.IntN.{ℤ}
use borrow.Author.Tests.{le-leb, lt-leb}
use Rattle.sheet_rules.specs.Fields.{one_if, sum_below, count_below}
use Rattle.sheet_rules.proofs.Fields.{sum_more}
use Rattle.sheet_rules.proofs.Sums.{count-on}
use Rattle.machine.specs.declared.Telegram.{Telegram}
use Rattle.machine.specs.State.{places, state_length, waiting, telegram_in, telegram_of, is_internal, class_of, same_class, waiting_like, class_limit}
use Rattle.machine_states.proofs.Classes.{class-inside, class-outside}
use Rattle.engine_store.specs.Layout.{shortest, place_in}
use Rattle.engine_store.proofs.Lies.{place_in_lem}

-- ---- telegrams of a class

module _ (t u : Telegram) where
  pub classes_alike : beq (is_internal t) (is_internal u) ≡ eqb (class_of t) (class_of u)
  classes_alike = go (is_internal t) (is_internal u) refl refl
    where
      go : (a b : Bool) → is_internal t ≡ a → is_internal u ≡ b → beq (is_internal t) (is_internal u) ≡ eqb (class_of t) (class_of u)
      go true true p q = rw (class-inside t p, class-inside u q, p, q) refl
      go true false p q = rw (class-inside t p, class-outside u q, p, q) refl
      go false true p q = rw (class-outside t p, class-inside u q, p, q) refl
      go false false p q = rw (class-outside t p, class-outside u q, p, q) refl

-- how many of the first j are of t's class
abbrev like_below : List ℕ → List ℤ → Telegram → ℕ → ℕ
like_below s st t j = count_below j (λ i. same_class t (telegram_of s st i))

like_more : (s : List ℕ) (st : List ℤ) (t : Telegram) (j : ℕ) → like_below s st t (j + 1) ≡ like_below s st t j + one_if (same_class t (telegram_of s st j))
unfolding count_below
like_more s st t j = sum_more j (λ i. one_if (same_class t (telegram_of s st i)))

-- of n telegrams those before `at` are looked at; from `last` on as many are left as a full class still needs
pub record Looked (st : List ℤ) (n : ℕ) (t : Telegram) (last at : ℕ) : Type 0 where
  pub seen : ℕ
  pub need : ℕ
  pub here : at ≡ place_in (length st) seen
  pub inside : seen ≤ n
  pub some : 1 ≤ need
  pub most : need ≤ class_limit
  pub behind : last + 8 * need ≡ place_in (length st) n
  pub like : (s : List ℕ) → length st ≡ state_length s → need + like_below s st t seen ≡ class_limit

module _ (st : List ℤ) (n : ℕ) (e : n ≡ waiting st) (fits : n ≤ places) (long : shortest ≤ length st) (t : Telegram) where
  abbrev end : ℕ
  end = place_in (length st) n

  abbrev Full : Bool → Type 0
  Full b = (s : List ℕ) → length st ≡ state_length s → b ≡ leb class_limit (waiting_like s st t)

  pub looked_none : class_limit ≤ n → (last at : ℕ) → last ≡ place_in (length st) (n - class_limit) → at ≡ place_in (length st) 0 → Looked st n t last at
  unfolding count_below sum_below
  looked_none h last at l a = record { seen = 0; need = class_limit; here = a; inside = omega arith; some = omega arith; most = omega arith; behind = omega arith; like = λ s w. refl }

  -- there are too few
  pub class-few : n < class_limit → Full false
  unfolding waiting_like count_below sum_below
  class-few h s w = sym (lt-leb class_limit (like_below s st t (waiting st)) (let c = count-on (λ i. same_class t (telegram_of s st i)) 0 (waiting st) (omega arith) in omega (arith, c.1)))

  module _ (last at : ℕ) (k : Looked st n t last at) where
    -- behind `last` there are too few
    pub looked_few : last < at → Full false
    unfolding waiting_like
    looked_few h s w = sym (lt-leb class_limit (like_below s st t (waiting st)) (let c = count-on (λ i. same_class t (telegram_of s st i)) k.seen (waiting st) (omega (arith, k.inside)) in omega (arith, c.1, k.here, k.behind, k.like s w)))

    module _ (h : at ≤ last) where
      next_here : at + 8 ≡ place_in (length st) (k.seen + 1)
      next_here = omega (arith, k.here)

      next_inside : k.seen + 1 ≤ n
      next_inside = omega (arith, k.here, k.behind, k.some)

      this : (s : List ℕ) → length st ≡ state_length s → telegram_of s st k.seen ≡ telegram_in st at
      unfolding telegram_of
      this s w = ap (telegram_in st) (sym (k.here ∙ place_in_lem s (length st) k.seen w))

      module _ (q : same_class t (telegram_in st at) ≡ true) where
        one_more : (s : List ℕ) → length st ≡ state_length s → like_below s st t (k.seen + 1) ≡ like_below s st t k.seen + 1
        one_more s w = like_more s st t k.seen ∙ ap (λ b. like_below s st t k.seen + one_if b) (ap (same_class t) (this s w) ∙ q)

        pub looked_found : (last + 8 ≡ end → ⊥) → Looked st n t (last + 8) (at + 8)
        looked_found d = record { seen = k.seen + 1; need = k.need - 1; here = next_here; inside = next_inside; some = left; most = omega (arith, k.most); behind = omega (arith, k.behind, k.some); like = λ s w. omega (arith, k.like s w, one_more s w, k.some) }
          where
            left : 1 ≤ k.need - 1
            left = elim (ℕ_discrete k.need 1) [ yes z ↦ absurd (d (omega (arith, k.behind))) | no z ↦ omega (arith, k.some) ]

        pub looked_full : last + 8 ≡ end → Full true
        unfolding waiting_like
        looked_full d s w = sym (le-leb class_limit (like_below s st t (waiting st)) (let c = count-on (λ i. same_class t (telegram_of s st i)) (k.seen + 1) (waiting st) (omega (arith, next_inside)) in omega (arith, c.0, k.behind, k.like s w, one_more s w)))

      pub looked_passed : same_class t (telegram_in st at) ≡ false → Looked st n t last (at + 8)
      looked_passed q = record { seen = k.seen + 1; need = k.need; here = next_here; inside = next_inside; some = k.some; most = k.most; behind = k.behind; like = λ s w. omega (arith, k.like s w, none_more s w) }
        where
          none_more : (s : List ℕ) → length st ≡ state_length s → like_below s st t (k.seen + 1) ≡ like_below s st t k.seen + 0
          none_more s w = like_more s st t k.seen ∙ ap (λ b. like_below s st t k.seen + one_if b) (ap (same_class t) (this s w) ∙ q)
