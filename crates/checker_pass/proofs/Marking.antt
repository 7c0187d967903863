-- Laws of marking: one node, one thing after another, a loop.
use Prim.Native.Nat.{ℕ, ◌+◌, ◌≤◌, ◌<◌}
use mathlib.Core.Path.{◌≡◌, refl, sym, ap, ◌∙◌}
use mathlib.Core.List.{List}
use native.Mathlib.Omega.{arith}
use native.Mathlib.Decide.{dec_lt}
use lib.ListN.{length, get_or, set, length-set}
use lib.Dec.{eqb}
use lib.Seq.{get_or-set_same, get_or-set_other}
use Rattle.sheet_rules.specs.Fields.{one_if, sum_below}
use Rattle.sheet_rules.proofs.Fields.{sum_more}
use Rattle.sheet_rules.proofs.Sums.{one_same, one_other}
use Rattle.checker_pass.specs.Marks.{marked, marked_times, Kept, Cleared, Marked}
use Rattle.checker_pass.proofs.Times.{times_add}

-- ---- a count in a loop: `f j` is added in turn j

pub count-start : (f : ℕ → ℕ) → 0 ≡ sum_below 0 f
unfolding sum_below
count-start f = refl

pub count_more_lem : (f : ℕ → ℕ) (j g x : ℕ) → g ≡ sum_below j f → x ≡ f j → g + x ≡ sum_below (j + 1) f
count_more_lem f j g x p q = omega (arith, p, q, sum_more j f)

pub count-end : (f : ℕ → ℕ) (j total g : ℕ) → j ≡ total → g ≡ sum_below j f → g ≡ sum_below total f
count-end f j total g e p = p ∙ ap (λ (x : ℕ). sum_below x f) e

-- ---- marks that stayed

module _ (top : ℕ) where
  pub kept-all : (a : List ℕ) → Kept top a a
  kept-all a = record { long = refl; outside = λ n l. refl }

  pub kept_set : (a : List ℕ) (m v : ℕ) → m < top → Kept top a (set a m v)
  kept_set a m v l = record { long = length-set a m v; outside = λ n g. get_or-set_other a m n v 0 (λ d. omega arith) }

  pub kept_then : (a b d : List ℕ) → Kept top a b → Kept top b d → Kept top a d
  kept_then a b d h i = record { long = i.long ∙ h.long; outside = λ n l. i.outside n l ∙ h.outside n l }

  -- marks below a lower number were written
  pub kept_lower : (m : ℕ) (a b : List ℕ) → m ≤ top → Kept m a b → Kept top a b
  kept_lower m a b l h = record { long = h.long; outside = λ n g. h.outside n (omega arith) }

pub kept_at : (i top : ℕ) (a b : List ℕ) → i ≡ top → Kept i a b → Kept top a b
kept_at i top a b e h = rw (← e) h

pub room_set : (a : List ℕ) (m v : ℕ) → m ≤ length a → m ≤ length (set a m v)
room_set a m v l = omega (arith, length-set a m v, l)

-- ---- clearing: those below i are 0

pub clear_start : (a : List ℕ) → Cleared 0 a a
clear_start a = record { kept = record { long = refl; outside = λ n l. refl }; inside = λ n l. absurd (omega arith) }

pub clear_more : (i : ℕ) (a b : List ℕ) → i < length b → Cleared i a b → Cleared (i + 1) a (set b i 0)
clear_more i a b l h = record {
  kept = record { long = length-set b i 0 ∙ h.kept.long; outside = λ n g. get_or-set_other b i n 0 0 (λ d. omega arith) ∙ h.kept.outside n (omega arith) };
  inside = λ n g. elim (dec_lt n i) [
    | yes q ↦ get_or-set_other b i n 0 0 (λ d. omega arith) ∙ h.inside n q
    | no q ↦ (let e : i ≡ n = omega arith in rw (← e) (get_or-set_same b i 0 0 l))
  ];
}

pub clear_end : (i top : ℕ) (a b : List ℕ) → i ≡ top → Cleared i a b → Cleared top a b
clear_end i top a b e h = rw (← e) h

-- ---- marking

module _ (top k : ℕ) where
  pub marked_as : (a b : List ℕ) (f g : ℕ → ℕ) → ((n : ℕ) → n < top → f n ≡ g n) → Marked top k a b f → Marked top k a b g
  marked_as a b f g e h = record { kept = h.kept; inside = λ n l. h.inside n l ∙ ap (λ (x : ℕ). marked_times k x (get_or a n 0)) (e n l) }

  pub marked-none : (a : List ℕ) (f : ℕ → ℕ) → ((n : ℕ) → n < top → f n ≡ 0) → Marked top k a a f
  unfolding marked_times
  marked-none a f e = record { kept = kept-all top a; inside = λ n l. sym (ap (λ (x : ℕ). marked_times k x (get_or a n 0)) (e n l)) }

  -- ---- one node

  pub marked-outside : (a : List ℕ) (m : ℕ) → top ≤ m → Marked top k a a (λ n. one_if (eqb m n))
  marked-outside a m l = marked-none a _ (λ n q. one_other m n (λ e. omega arith))

  pub marked_node : (a : List ℕ) (m v : ℕ) → m < top → m < length a → v ≡ marked k (get_or a m 0) → Marked top k a (set a m v) (λ n. one_if (eqb m n))
  unfolding marked_times
  marked_node a m v l q e = record {
    kept = kept_set top a m v l;
    inside = λ n _. elim (dec_lt n m) [
      | yes g ↦ other n (λ d. omega arith)
      | no g ↦ elim (dec_lt m n) [
        | yes h ↦ other n (λ d. omega arith)
        | no h ↦ (let d : m ≡ n = omega arith in rw (← d) same)
      ]
    ];
  }
    where
      same : get_or (set a m v) m 0 ≡ marked_times k (one_if (eqb m m)) (get_or a m 0)
      same = get_or-set_same a m v 0 q ∙ e ∙ sym (ap (λ (x : ℕ). marked_times k x (get_or a m 0)) (one_same m))

      other : (n : ℕ) → (n ≡ m → ⊥) → get_or (set a m v) n 0 ≡ marked_times k (one_if (eqb m n)) (get_or a n 0)
      other n d = get_or-set_other a m n v 0 d ∙ sym (ap (λ (x : ℕ). marked_times k x (get_or a n 0)) (one_other m n (λ e. d (sym e))))

  -- ---- one thing after another

  pub marked_then : (a b d : List ℕ) (f g : ℕ → ℕ) → Marked top k a b f → Marked top k b d g → Marked top k a d (λ n. f n + g n)
  marked_then a b d f g h i = record {
    kept = kept_then top a b d h.kept i.kept;
    inside = λ n l. i.inside n l ∙ ap (marked_times k (g n)) (h.inside n l) ∙ sym (times_add k (f n) (g n) (get_or a n 0));
  }

  -- ---- a loop: `f n j` is added in turn j

  pub loop-start : (a : List ℕ) (f : ℕ → ℕ → ℕ) → Marked top k a a (λ n. sum_below 0 (f n))
  unfolding sum_below
  loop-start a f = marked-none a _ (λ n l. refl)

  pub loop_more : (a b d : List ℕ) (f : ℕ → ℕ → ℕ) (j : ℕ) → Marked top k a b (λ n. sum_below j (f n)) → Marked top k b d (λ n. f n j) → Marked top k a d (λ n. sum_below (j + 1) (f n))
  loop_more a b d f j h i = marked_as a d _ _ (λ n l. sym (sum_more j (f n))) (marked_then a b d _ _ h i)

  pub loop-end : (a b : List ℕ) (f : ℕ → ℕ → ℕ) (j total : ℕ) → j ≡ total → Marked top k a b (λ n. sum_below j (f n)) → Marked top k a b (λ n. sum_below total (f n))
  loop-end a b f j total e h = marked_as a b _ _ (λ n l. ap (λ (x : ℕ). sum_below x (f n)) e) h
